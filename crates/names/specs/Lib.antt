-- What the contracts of this crate cite, beside the definitions of crate defs.
pub mod Decimals
pub mod Taken
pub mod Named
pub mod OfTables
