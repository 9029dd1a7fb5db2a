-- Laws that speak of no function: the answer once the work has begun, and the answer of the whole operation.
pub mod Endings
pub mod Answers
