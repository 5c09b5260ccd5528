pub mod Branches
pub mod JudgedLaws
pub mod ListedLaws
