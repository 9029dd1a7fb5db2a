-- Laws that speak of no function: of the hypothesis that a step stands for, of the parts of a word and of the whole.
pub mod HypLaws
pub mod PartLaws
pub mod WordLaws
