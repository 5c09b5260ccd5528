pub mod Applied
pub mod Choices
pub mod Examples
pub mod Laws
pub mod Picks
pub mod Tables
