pub mod Updated
pub mod Laws
