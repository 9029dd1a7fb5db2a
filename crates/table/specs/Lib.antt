pub mod Records
pub mod Kinds
pub mod Headers
