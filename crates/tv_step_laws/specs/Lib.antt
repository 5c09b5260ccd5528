pub mod Budgets
pub mod Closed
pub mod Laws
pub mod Parts
pub mod Settled
pub mod Shaped
pub mod Sound
pub mod Transfer
