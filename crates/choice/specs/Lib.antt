-- What the contracts of this crate cite, beside the definitions of crate defs.
pub mod Rows
pub mod Choice
