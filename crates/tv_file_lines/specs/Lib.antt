pub mod Numbered
pub mod FileLines
pub mod Counts
