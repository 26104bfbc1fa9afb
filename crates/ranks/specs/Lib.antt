pub mod Literals
pub mod Raising
pub mod Searching
pub mod Answers
