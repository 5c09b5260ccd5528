pub mod Fits
pub mod Laws
pub mod Maps
pub mod Search
