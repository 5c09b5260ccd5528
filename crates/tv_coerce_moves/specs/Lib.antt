pub mod Moves
pub mod Occurrences
