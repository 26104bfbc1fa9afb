pub mod PutLaws
pub mod DigitLaws
pub mod InputLaws
pub mod PrintLaws
pub mod StandLaws
mod ArgumentLaws
mod RowLaws
pub mod LineLaws
pub mod AnswerLaws
pub mod RunLaws
pub mod PrintedLaws
pub mod ByteLaws
