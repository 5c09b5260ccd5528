-- The library of lemmas on stable structures, for the crates above.
pub mod Heads
pub mod Images
pub mod InHeaps
pub mod Joined
pub mod Joins
pub mod OneCells
-- What only the laws of this crate cite.
mod Decided
