pub mod Texts
pub mod Trails
