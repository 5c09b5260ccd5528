-- Library of lemmas for the crates above: how often files are begun.
pub mod Begins
pub mod Loading
pub mod OneFile
pub mod Refusals
-- Lemmas of this crate's own.
mod Counts
mod OneMeaning
mod Sources
mod Starts
mod Vocabularies
