-- Laws that speak of no function.
pub mod Lemmas
pub mod Turns
pub mod KindLaws
pub mod NumberLaws
pub mod ListLaws
