pub mod Verdicts
pub mod Gave
pub mod Verified
pub mod Came
pub mod Spelled
pub mod Covered
pub mod Agreed
pub mod Verification
