-- What the code computes with, said of the rules' lists; the terms that are left; and the result of a call.
pub mod Successors
pub mod Holding
pub mod Listing
pub mod Answers
