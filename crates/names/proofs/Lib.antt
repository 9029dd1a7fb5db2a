-- Laws that speak of no function: of the digits of a number, of the number that a label says, of the numbers that are labels, of the names.
pub mod Decimals
mod Turns
mod Numbers
mod TakenLaws
mod MarkLaws
