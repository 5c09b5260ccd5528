pub mod Seen
pub mod Anchored
pub mod Puts
pub mod Stage
pub mod Laws
pub mod Focused
