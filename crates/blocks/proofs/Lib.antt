-- Laws that speak of no function, from one line to the label list.
pub mod Placing
pub mod Removing
pub mod Lines
pub mod Turns
pub mod Blocks
pub mod Counts
pub mod Emission
pub mod Ordering
pub mod Same
pub mod Few
