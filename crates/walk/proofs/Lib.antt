-- What the proofs of several functions use.
pub mod StepLaws
pub mod OwnLaws
mod NormalLaws
