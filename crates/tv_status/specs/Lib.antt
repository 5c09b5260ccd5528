pub mod Status
pub mod Delivery
