mod Claims
pub mod Closing
mod First
mod Kept
mod Validity
