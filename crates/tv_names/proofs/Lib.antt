-- The library for the crates above: steps one after the other, and what formulas see and which numbers that takes.
pub mod Loops
pub mod SlotFills
pub mod Sightings
pub mod SightLaws
-- What only this crate cites.
mod SlotLaws
mod SymbolLaws
mod Weights
mod PickLaws
mod BindingLaws
