pub mod Tuples
pub mod Heaps
pub mod Truths
pub mod Definite
