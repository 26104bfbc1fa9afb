-- The numbers of the answers, what the code takes cells for, the walk over cells that counts the terms to come, and where clauses stand.
pub mod Answers
pub mod Kinds
pub mod Scan
pub mod Rows
pub mod Pairs
