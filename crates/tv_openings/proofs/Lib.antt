pub mod GapLaws
pub mod OpeningLaws
pub mod PartLaws
