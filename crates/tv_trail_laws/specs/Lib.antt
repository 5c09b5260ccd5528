pub mod Trails
pub mod Met
pub mod Laws
