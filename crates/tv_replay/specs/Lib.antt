pub mod Judging
pub mod Text
