pub mod Found
pub mod Listed
pub mod Turned
pub mod Unmet
