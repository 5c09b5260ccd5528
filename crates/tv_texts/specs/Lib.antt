pub mod Meaning
pub mod Files
pub mod Agreement
pub mod Faults
pub mod Sources
pub mod Structures
