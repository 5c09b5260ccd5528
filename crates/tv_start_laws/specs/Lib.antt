pub mod Copies
pub mod Starts
pub mod Laws
