pub mod Texts
pub mod Line
pub mod Laws
pub mod Rows
pub mod Named
