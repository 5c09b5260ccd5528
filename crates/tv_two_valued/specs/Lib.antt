pub mod TwoValued
pub mod Laws
