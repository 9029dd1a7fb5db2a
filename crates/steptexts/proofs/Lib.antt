-- Laws that speak of no function: of the sections that are lent, of the steps that stand in words, of the words of steps laid one after
-- the other, of the names behind a packed list, of the packed and of the normal text.
pub mod Lent
pub mod Held
pub mod Laying
pub mod NamedLaws
pub mod PackedLaws
pub mod NormalLaws
