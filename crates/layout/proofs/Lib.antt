-- Laws that speak of no function: of the bounds of a layout, of an empty part of a slice, of a text that grows by
-- pieces, of the text laid so far, of what stands before a word, of letters cut.
pub mod Within
pub mod Free
pub mod Wrote
pub mod Words
pub mod Cutting
