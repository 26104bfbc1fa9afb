-- What the code has reached.
pub mod Named
pub mod Reached
