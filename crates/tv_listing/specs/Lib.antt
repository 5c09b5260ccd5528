pub mod Hashing
pub mod Listed
pub mod ListingForm
