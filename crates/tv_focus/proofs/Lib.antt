mod Aims
mod AllWrites
pub mod ChosenTables
mod Few
mod Filters
mod Folds
mod Given
pub mod Limits
mod Lines
mod Parts
mod Picks
mod Puts
mod Sharp
mod Whole
