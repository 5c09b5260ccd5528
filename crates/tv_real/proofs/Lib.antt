mod Collected
pub mod OneList
