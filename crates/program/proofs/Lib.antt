pub mod InputLaws
pub mod PartLaws
