pub mod LiteralLaws
pub mod ChildrenLaws
pub mod DerivingLaws
pub mod CostLaws
