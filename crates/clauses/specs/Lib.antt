pub mod Clauses
pub mod Groups
pub mod Rows
pub mod Index
pub mod Tried
