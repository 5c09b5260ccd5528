-- Library: lemmas that the crates above may cite, on membership in lists, lists without repeats, numbers of choices,
-- and tables that are written.
pub mod Members
pub mod Membership
pub mod Distinct
pub mod Counts
pub mod Splits
pub mod Stages
pub mod Writes
pub mod ChosenTables
pub mod StageTables
pub mod Tables
-- Proofs of this crate's own laws.
mod Listed
mod Places
mod Embedded
mod HeapChoices
mod Exact
mod ExactLists
