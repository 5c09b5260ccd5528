-- The library of lemmas on values, for the crates above.
pub mod Agreed
pub mod Embedded
pub mod Entries
pub mod Folds
pub mod InHeaps
pub mod Matched
pub mod Preimages
pub mod Rounds
pub mod Walks
-- What only the laws of this crate cite.
mod ByThresholds
