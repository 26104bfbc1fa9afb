pub mod Walk
pub mod Encoding
pub mod Symbols
