pub mod DrawnLaws
pub mod HalfLaws
pub mod ListLaws
pub mod OriginLaws
pub mod StructureLaws
pub mod TableLaws
-- the library of lemmas for the crates above: its statements stay as they are
pub mod Library
