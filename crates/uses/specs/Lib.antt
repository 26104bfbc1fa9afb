pub mod Pairs
pub mod Counting
pub mod Uses
pub mod Batches
