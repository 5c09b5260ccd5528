pub mod Count
pub mod Told
pub mod Memory
pub mod Outcome
