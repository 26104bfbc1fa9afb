pub mod NegativeLaws
pub mod StepLaws
pub mod TurnLaws
pub mod GoingLaws
pub mod ChoiceLaws
