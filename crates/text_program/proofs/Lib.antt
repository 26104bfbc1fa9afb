pub mod OutputLaws
pub mod ReadLaws
pub mod WriteLaws
