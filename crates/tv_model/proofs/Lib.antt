-- The library of lemmas on lists, facts and the definitions of the model, for the crates above.
pub mod Assignments
pub mod Decided
pub mod FreeTests
pub mod Heads
pub mod Lists
pub mod Ordered
pub mod Parts
pub mod Programs
pub mod Quantifying
pub mod Runs
pub mod Truths
pub mod Walks
-- What only the laws of this crate cite.
mod Formulas
