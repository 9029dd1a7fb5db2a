pub mod Hash
pub mod Answers
pub mod Tallies
pub mod Asked
