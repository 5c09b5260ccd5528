pub mod Fates
pub mod Laws
pub mod Orders
pub mod Texts
