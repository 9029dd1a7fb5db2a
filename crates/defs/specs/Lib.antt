-- Document 01 as definitions, in reading order: each judges what a contract may say.
pub mod Bytes
pub mod Table
pub mod Check
pub mod Graph
pub mod Counts
pub mod Steps
pub mod Names
pub mod Letters
pub mod Order
pub mod Layout
pub mod Text
pub mod Refusals
pub mod Outcome
pub mod Replay
pub mod Decode
-- Laws that follow from them: what a proof of code cites. First those on tests, lists and sums, which know nothing of tables.
pub mod Laws
pub mod Checked
pub mod Sections
pub mod DistanceLaws
pub mod ChoiceLaws
pub mod SortLaws
pub mod LetterLaws
pub mod NameLaws
pub mod Ranges
pub mod LineLaws
pub mod OutcomeLaws
pub mod Inside
pub mod Unique
-- The example of document 01.
pub mod Opened
pub mod Example
