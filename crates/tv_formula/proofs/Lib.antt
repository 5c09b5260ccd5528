-- Library of lemmas for the crates above: formulas of the grammar are read, there is one at most, and printed ones are
-- read again.
pub mod Complete
pub mod FormulaLaws
pub mod Again
-- Lemmas of this crate's own.
mod Steps
mod WordLists
mod Sound
