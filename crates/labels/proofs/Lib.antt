-- Laws that speak of no function: of searches in a list, of words written one by one, of the label list.
pub mod Searches
pub mod Weighing
pub mod Listed
pub mod Ordering
