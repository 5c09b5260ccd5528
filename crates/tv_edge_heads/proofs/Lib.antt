mod Written
pub mod Rows
pub mod Ends
pub mod FormulaEnds
pub mod ProgramEnds
mod WidthLaws
mod Standing
pub mod OnLines
mod OneHeads
