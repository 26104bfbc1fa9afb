pub mod MeanProgram
pub mod Told
