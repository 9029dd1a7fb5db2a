pub mod Stack
pub mod Steps
pub mod Turns
