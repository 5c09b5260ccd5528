pub mod Blur
pub mod Classes
pub mod Laws
pub mod Merged
pub mod Names
pub mod Naming
pub mod Rising
