-- What the contracts of this crate cite, beside the definitions of crate defs.
pub mod Labels
pub mod Decoding
pub mod Answer
