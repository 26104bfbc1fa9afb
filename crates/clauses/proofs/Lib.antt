pub mod ClauseLaws
pub mod GroupLaws
pub mod RowLaws
pub mod ArityLaws
pub mod IndexLaws
pub mod TriedLaws
pub mod CountLaws
