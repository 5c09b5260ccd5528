pub mod Arities
pub mod Picks
