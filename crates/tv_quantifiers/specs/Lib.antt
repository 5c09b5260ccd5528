pub mod Chains
pub mod Heights
pub mod Parts
pub mod Quantified
pub mod Rows
pub mod Runs
pub mod Sets
pub mod Words
