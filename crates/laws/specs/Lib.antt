-- Functions on numbers and lists, and facts about them: lists, tests and sums below a number, counts, sorting, words put into a slice, tests that decide facts, places of a list. No table is spoken of.
pub mod Tools
pub mod Lists
pub mod Below
pub mod Sums
pub mod Counting
pub mod Sorting
pub mod Puts
pub mod Decides
pub mod Places
pub mod Library
pub mod Parts
