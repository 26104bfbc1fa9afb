pub mod Tables
pub mod Taking
pub mod TermCode
pub mod Cells
pub mod Bindings
pub mod Outcomes
pub mod Written
