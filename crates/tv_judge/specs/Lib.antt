pub mod Found
pub mod Index
pub mod Items
pub mod Judged
pub mod Laws
pub mod Progress
pub mod Setting
pub mod Verdicts
