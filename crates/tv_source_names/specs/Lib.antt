pub mod Meaning
pub mod Answers
pub mod Scopes
pub mod Outcome
