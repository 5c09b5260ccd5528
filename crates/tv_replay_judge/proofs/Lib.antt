pub mod Tried
pub mod Walked
pub mod Passed
pub mod Judging
pub mod Rules
pub mod Compared
pub mod Preds
pub mod Places
