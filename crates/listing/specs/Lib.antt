pub mod Arrays
pub mod Numbers
pub mod Kinds
pub mod Clear
pub mod Listing
pub mod Labels
