pub mod Forms
pub mod Copies
pub mod Printed
pub mod Spelled
pub mod Names
pub mod Steps
