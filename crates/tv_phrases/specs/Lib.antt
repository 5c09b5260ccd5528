pub mod Reading
pub mod Tokens
pub mod Lists
pub mod Repeated
pub mod Refused
