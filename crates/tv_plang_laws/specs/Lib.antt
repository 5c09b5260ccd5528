pub mod Memories
pub mod Positions
pub mod Steps
pub mod Compiled
pub mod Heaps
pub mod Laws
