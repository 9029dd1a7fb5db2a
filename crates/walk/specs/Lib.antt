pub mod Entries
pub mod Hyps
pub mod Steps
pub mod Marks
pub mod Packed
pub mod Children
pub mod Normal
pub mod Tables
