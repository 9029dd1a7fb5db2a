-- Laws that speak of no function: of searches in a list, and of the theorem's list.
pub mod Searches
pub mod Goals
