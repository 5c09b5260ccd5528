pub mod Next
pub mod Stuck
pub mod Judged
pub mod JudgedRules
pub mod Above
pub mod States
pub mod Runs
pub mod Laws
