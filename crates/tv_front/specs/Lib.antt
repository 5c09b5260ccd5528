pub mod Meaning
pub mod ReadAgain
pub mod Trees
