-- The entries of a column, the walks over an answer list, and the result of the call.
pub mod Entries
pub mod Results
