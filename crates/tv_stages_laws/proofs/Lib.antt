-- The library of lemmas on recorded stages, for the crates above.
pub mod Ends
pub mod Parts
pub mod Recorded
