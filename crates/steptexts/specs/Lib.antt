-- What the contracts of this crate cite, beside the definitions of crate defs.
pub mod Texts
