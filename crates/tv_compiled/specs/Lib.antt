pub mod Compiled
pub mod Notes
pub mod Parts
pub mod Whole
