pub mod Numbered
pub mod Frees
pub mod Resolved
pub mod Kept
pub mod Rooms
