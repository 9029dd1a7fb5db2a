-- What the proofs of several functions use.
mod PackedLaws
mod TurnLaws
mod BeginLaws
