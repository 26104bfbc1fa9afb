pub mod FilterLaws
pub mod FileLaws
pub mod PrintLaws
pub mod SizeLaws
