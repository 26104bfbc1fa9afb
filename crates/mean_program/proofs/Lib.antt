pub mod InputLaws
pub mod TellLaws
pub mod LineLaws
pub mod PublicMean
