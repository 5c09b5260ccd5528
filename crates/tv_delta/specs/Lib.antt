pub mod Answers
pub mod Causes
pub mod Flags
pub mod Formed
pub mod Laws
pub mod Lowest
pub mod Opening
pub mod Quantified
