pub mod Finished
pub mod Ends
