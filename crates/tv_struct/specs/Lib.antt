pub mod LayoutForm
pub mod Order
pub mod Signature
pub mod StructureRows
pub mod TupleForm
