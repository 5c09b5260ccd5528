-- The library of lemmas on abstract steps, for the crates above.
pub mod Exact
pub mod From
pub mod Heaps
pub mod Picked
pub mod Runs
pub mod Settled
pub mod Shapes
