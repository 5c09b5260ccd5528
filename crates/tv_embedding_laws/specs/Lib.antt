pub mod Embedding
pub mod Laws
pub mod LogicalStructure
