pub mod ReadBack
pub mod LettersBack
pub mod NewTables
pub mod Main
pub mod Instance
