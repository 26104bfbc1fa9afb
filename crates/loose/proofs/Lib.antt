pub mod MarkLaws
pub mod LooseLaws
