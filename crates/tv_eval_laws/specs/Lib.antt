pub mod Laws
pub mod ListValues
pub mod Thresholds
pub mod Value
