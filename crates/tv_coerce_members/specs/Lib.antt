pub mod Members
pub mod Pushing
