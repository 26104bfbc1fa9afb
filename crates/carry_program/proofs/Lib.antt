pub mod InputLaws
pub mod BarLaws
pub mod OutputLaws
pub mod EndLaws
pub mod RunLaws
