pub mod Marks
pub mod Traces
pub mod Moves
