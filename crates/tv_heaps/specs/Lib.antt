pub mod Heaps
pub mod Judging
pub mod Listed
