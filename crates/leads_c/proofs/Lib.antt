pub mod CallLaws
pub mod TextLaws
pub mod DrillLaws
pub mod LevelLaws
pub mod MeanLaws
