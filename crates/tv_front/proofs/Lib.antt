pub mod Stages
mod Understanding
pub mod OneMeaning
pub mod OneRefusal
mod Spelling
mod Exact
mod FormulaExact
mod PartExact
mod Kept
mod SetsAgain
mod DeclsAgain
mod LaidOut
mod Height
mod Widths
mod Programs
