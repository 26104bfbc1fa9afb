-- What the code finds at the start of a store.
pub mod Before
pub mod Passing
