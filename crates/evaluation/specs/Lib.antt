pub mod Results
pub mod Displays
