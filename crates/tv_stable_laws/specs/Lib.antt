pub mod Laws
pub mod OneCell
pub mod Stable
