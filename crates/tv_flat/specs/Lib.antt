pub mod FlatForm
pub mod Replaced
pub mod Views
