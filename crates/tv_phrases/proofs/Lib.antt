-- Library of lemmas for the crates above: steps of readings, what a phrase takes of the tokens, items one after the other,
-- phrases at one place, and words.
pub mod Values
pub mod Takes
pub mod Repeats
pub mod Facts
pub mod WordTests
pub mod Numerals
pub mod Marks
pub mod LeftTokens
-- Lemmas of this crate's own.
mod CommaLists
mod Turns
