-- What the code's data stand for: variables named in order, the selected literal, the derived goal.
pub mod Naming
pub mod Variables
pub mod Selecting
pub mod Deriving
pub mod Child
