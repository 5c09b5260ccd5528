pub mod Outcome
pub mod Sets
pub mod Idle
pub mod Expansion
pub mod Origins
pub mod Limits
pub mod Views
pub mod States
