-- What the contracts of this crate cite, beside the definitions of crate defs; and the words of a table's steps.
pub mod Spelled
pub mod Carried
pub mod Tables
