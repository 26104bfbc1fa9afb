pub mod LevelsLaws
