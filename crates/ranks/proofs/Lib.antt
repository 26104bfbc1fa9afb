pub mod ListLaws
pub mod ValueLaws
pub mod ClauseFacts
pub mod RaiseLaws
pub mod SearchLaws
pub mod AnswerLaws
