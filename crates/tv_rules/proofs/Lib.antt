-- The library of lemmas on closed rules, for the crates above.
pub mod Carried
pub mod DefinedValues
pub mod Family
pub mod Heights
pub mod MetByHeaps
pub mod Plain
pub mod Ranges
pub mod Written
-- What only this crate cites.
mod AllBut
mod Dropping
mod EntryLemmas
mod FlagLemmas
mod Free
mod Further
mod KeptLemmas
mod KinLaws
mod Loops
mod MovedLaws
mod NotingLaws
mod RuleTests
