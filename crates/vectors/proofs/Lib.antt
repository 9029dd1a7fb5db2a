mod Arrays
mod HashLaws
mod AnswerLaws
mod TallyLaws
