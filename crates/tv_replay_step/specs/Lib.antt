pub mod Free
pub mod Picked
pub mod Ready
pub mod Stepped
pub mod Turns
pub mod Updated
