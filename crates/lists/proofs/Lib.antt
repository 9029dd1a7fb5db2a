-- What the proofs of several functions use.
mod AnswerLaws
pub mod ListLaws
