pub mod Awaiting
mod Keeping
pub mod Listing
pub mod Staying
mod Turning
