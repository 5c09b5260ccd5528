pub mod Tree
pub mod Grammar
pub mod Meaning
pub mod Reading
pub mod Views
