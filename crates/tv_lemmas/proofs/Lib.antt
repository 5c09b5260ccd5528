-- The library of lemmas that the standard library doesn't state, for all crates above.
pub mod Bools
pub mod Calls
pub mod Lists
pub mod Options
pub mod Orderings
pub mod Texts
pub mod Zips
