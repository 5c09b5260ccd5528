pub mod Forms
pub mod Copies
pub mod Depth
pub mod Words
pub mod Grammar
pub mod Reading
