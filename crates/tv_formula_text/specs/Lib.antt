pub mod Entries
pub mod Formulas
pub mod Walks
