pub mod MirrorLaws
pub mod HeldLaws
