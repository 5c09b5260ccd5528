pub mod Forms
pub mod Copies
pub mod Valid
