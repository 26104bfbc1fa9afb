pub mod Table
pub mod Walks
pub mod Steps
pub mod Declares
pub mod Windows
