pub mod WalkLaws
pub mod CellLaws
pub mod EncodeLaws
pub mod ClauseLaws
