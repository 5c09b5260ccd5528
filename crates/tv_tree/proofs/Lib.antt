pub mod Texts
pub mod Unfolds
pub mod NameTexts
