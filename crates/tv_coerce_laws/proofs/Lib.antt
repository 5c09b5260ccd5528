pub mod Limits
pub mod Splits
pub mod Untouched
