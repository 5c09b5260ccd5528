pub mod Deltas
pub mod Differences
pub mod Laws
pub mod Putting
pub mod Simple
