-- What the contracts of this crate cite, beside the definitions of crate defs.
pub mod Line
pub mod State
pub mod Counted
pub mod Emission
