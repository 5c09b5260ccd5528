pub mod Kinds
pub mod Grammar
pub mod Reading
pub mod Height
