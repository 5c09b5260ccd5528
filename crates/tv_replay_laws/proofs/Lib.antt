pub mod JudgedRules
pub mod Named
pub mod Shown
pub mod Firsts
pub mod OneStep
pub mod OneEnding
