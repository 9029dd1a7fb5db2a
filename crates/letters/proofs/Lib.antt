-- Laws that speak of no function: of the letters of a number, of the byte ranges, of the number that letters spell.
pub mod Codes
pub mod Turns
pub mod Ranges
pub mod Numbers
