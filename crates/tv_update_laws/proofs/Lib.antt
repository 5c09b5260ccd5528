-- Library: lemmas that the crates above may cite, on choices, picks, middle structures, updates and tables,
-- among them the laws on which laws of steps rest.
pub mod Choices
pub mod Counts
pub mod Determined
pub mod Facts
pub mod Filters
pub mod Middles
pub mod OneTables
pub mod Picked
pub mod Picks
pub mod Preconditions
pub mod Predicates
pub mod Puts
pub mod Tables
pub mod Updates
-- Proofs of this crate's own laws.
mod Alike
mod ExactChoices
mod Made
mod Middle
mod News
mod Passing
mod Ranks
