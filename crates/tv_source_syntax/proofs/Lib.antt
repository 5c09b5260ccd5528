pub mod Unfolds
mod Depths
mod Rows
mod Sound
pub mod Complete
pub mod Sources
pub mod Declared
