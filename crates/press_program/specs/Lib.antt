pub mod PressProgram
pub mod Showing
