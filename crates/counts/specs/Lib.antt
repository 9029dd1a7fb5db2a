pub mod Children
pub mod Parents
pub mod Sizes
