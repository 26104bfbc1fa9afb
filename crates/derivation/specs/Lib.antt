pub mod Derives
