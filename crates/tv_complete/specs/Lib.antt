pub mod Completion
pub mod Kept
