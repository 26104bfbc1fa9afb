pub mod NamedLaws
pub mod BarLaws
pub mod MarkLaws
pub mod AnyLaws
pub mod ReachedLaws
pub mod GoalLaws
pub mod RightsLaws
