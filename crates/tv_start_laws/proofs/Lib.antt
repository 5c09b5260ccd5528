pub mod Alike
pub mod Beginning
pub mod Branching
pub mod Copying
pub mod Fibring
pub mod Leaves
