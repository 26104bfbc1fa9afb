pub mod ResultLaws
pub mod PublicReading
