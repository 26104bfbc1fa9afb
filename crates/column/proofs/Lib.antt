pub mod EntryLaws
pub mod SumLaws
pub mod ListLaws
pub mod WalkLaws
pub mod CallLaws
pub mod BoundLaws
pub mod PublicColumn
