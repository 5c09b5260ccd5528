mod Adding
mod Aiming
mod Answering
mod Causing
pub mod Ends
mod Following
mod Greatest
mod Kept
mod Levelling
mod Placing
mod Stepping
mod Walking
