pub mod Covers
pub mod Glance
pub mod Indexed
pub mod Listed
pub mod Noted
