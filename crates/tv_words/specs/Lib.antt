pub mod Line
pub mod Setup
pub mod Words
