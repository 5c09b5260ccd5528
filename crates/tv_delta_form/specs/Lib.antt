pub mod Shapes
pub mod Sizes
pub mod UnderHeads
pub mod Views
