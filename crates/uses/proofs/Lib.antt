pub mod CommaLaws
pub mod BracketLaws
pub mod MarkLaws
pub mod TableLaws
pub mod CheckLaws
pub mod ArityLaws
pub mod GatherLaws
