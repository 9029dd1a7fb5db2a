pub mod Places
pub mod Store
