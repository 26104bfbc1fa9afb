pub mod InputLaws
pub mod PressLaws
pub mod ShowLaws
