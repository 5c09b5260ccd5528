pub mod Ends
pub mod Named
pub mod Lines
pub mod Text
