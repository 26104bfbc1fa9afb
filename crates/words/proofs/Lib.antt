pub mod Sets
pub mod Reverse
pub mod StoreLaws
