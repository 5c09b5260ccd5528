pub mod Aims
pub mod Searched
pub mod Asked
pub mod Causes
pub mod Laws
pub mod Over
pub mod Reasons
