-- Laws that speak of no function.
pub mod Ascending
pub mod Sorting
