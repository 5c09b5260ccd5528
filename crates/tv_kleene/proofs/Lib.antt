-- The library of lemmas on truth values, for the crates above.
pub mod Lattice
pub mod Thresholds
