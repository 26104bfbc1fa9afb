pub mod LevelsProgram
