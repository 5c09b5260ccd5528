pub mod EdgePlaces
pub mod Widths
pub mod Heads
pub mod Laws
