mod Paths
mod Faithful
mod Cores
mod Statements
pub mod Pairings
pub mod Steps
pub mod Runs
