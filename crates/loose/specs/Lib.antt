-- What the code does in one walk over a row.
pub mod Marks
