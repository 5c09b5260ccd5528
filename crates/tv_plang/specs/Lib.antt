pub mod Errors
pub mod Meaning
pub mod Laws
pub mod Arcs
pub mod Limits
pub mod Nodes
