pub mod KeyLaws
pub mod JoinLaws
pub mod Putting
pub mod Nodes
pub mod Weights
pub mod Noting
pub mod Keeping
pub mod Meeting
pub mod Following
pub mod Greatest
pub mod Rounding
pub mod Placed
mod Single
pub mod Answering
pub mod Entries
pub mod Copying
pub mod Joining
pub mod Indexing
