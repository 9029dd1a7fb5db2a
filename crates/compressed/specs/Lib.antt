-- What the contracts of this crate cite, beside the definitions of crate defs, and what a caller with a whole table has for them.
pub mod Listed
pub mod Stepped
pub mod Texts
pub mod OfTables
