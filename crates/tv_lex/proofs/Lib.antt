-- Library of lemmas for the crates above: pieces and the tokens among them, where tokens start, longest fronts; how
-- often files are begun; bytes of files with their lines.
pub mod PieceTokens
pub mod SpacedTexts
pub mod PlaceLemmas
pub mod Runs
pub mod Taken
pub mod Begins
pub mod Numbered
-- Lemmas of this crate's own.
mod Closes
mod Good
mod Cut
mod OneReading
mod Names
mod Gathering
mod Parting
mod IncludeForm
mod OpenComments
