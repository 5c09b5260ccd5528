pub mod Predicates
mod Truths
mod Changes
mod Assigned
mod Graph
mod Runs
pub mod Pairs
mod Names
mod Formulas
pub mod Valid
mod Memories
mod Nulls
