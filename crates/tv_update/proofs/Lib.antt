-- Library: the picked variables of an action.
pub mod Variables
-- Proofs of this crate's own functions.
mod AllDefinitions
mod Answered
mod Applies
mod Defines
mod Finishes
mod Given
mod KeptLaws
mod Limits
mod Made
mod NewLaws
mod Plans
mod RowLaws
mod Sole
mod Whole
