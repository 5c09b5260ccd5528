pub mod Names
pub mod Heaps
pub mod Steps
pub mod Fronts
