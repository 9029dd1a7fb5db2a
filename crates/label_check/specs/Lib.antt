pub mod Right
pub mod Buckets
