pub mod Bytes
pub mod Lines
pub mod Refusals
pub mod Limits
pub mod Verdicts
pub mod Texts
