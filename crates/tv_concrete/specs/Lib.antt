pub mod Assignments
pub mod Laws
pub mod Lists
pub mod Reach
pub mod Steps
pub mod Tuples
