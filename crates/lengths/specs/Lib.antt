-- How long a packed list is, over the definitions of crate defs. First the walk as a recursion on the unfolded forest, and what it goes into.
pub mod Forests
pub mod Walks
pub mod Lengths
-- Then what a good table gives: the walks from its QED, and their exact length.
pub mod Tables
pub mod TableWalks
-- Explicit lists are no longer; the room that code needs.
pub mod Explicit
pub mod Bound
-- Which statements it lists.
pub mod Reached
