pub mod FiveLaws
pub mod ArityLaws
pub mod ItemLaws
pub mod WalkLaws
pub mod FindLaws
pub mod TableLaws
pub mod UseLaws
pub mod WindowLaws
