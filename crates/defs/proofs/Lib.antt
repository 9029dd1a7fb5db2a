pub mod LetterLaws
pub mod Ranges
pub mod LineLaws
pub mod ChoiceLaws
pub mod LabelLaws
