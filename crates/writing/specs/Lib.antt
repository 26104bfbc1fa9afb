-- What writing a deck as text promises; literals whose cells stand in a row; and the bytes of a clause by its cells.
pub mod Writes
pub mod Literals
pub mod Lengths
