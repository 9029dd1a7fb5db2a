-- What the contracts of this crate cite, beside the definitions of crates laws and defs.
pub mod Sorted
