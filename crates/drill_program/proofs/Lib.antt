pub mod PartLaws
pub mod LineLaws
