pub mod Put
pub mod Digits
pub mod Standing
pub mod Shown
pub mod Printed
