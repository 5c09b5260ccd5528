pub mod Halves
pub mod Laws
pub mod Lists
pub mod Origins
pub mod StructureForm
pub mod TableForm
