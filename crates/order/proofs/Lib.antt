-- Laws that speak of no function: of parts of a slice, of the refusals, of what stands in the working slice, of the answer.
pub mod Parts
pub mod Tests
pub mod Listed
pub mod Arranging
pub mod Answers
