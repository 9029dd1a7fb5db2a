pub mod Weights
pub mod Ordered
