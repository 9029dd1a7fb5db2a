pub mod Arrangement
pub mod Late
