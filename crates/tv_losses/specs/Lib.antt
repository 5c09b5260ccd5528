pub mod Cases
pub mod Enabled
pub mod Losses
pub mod Tasks
