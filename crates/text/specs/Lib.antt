pub mod Styles
pub mod Late
pub mod Lines
