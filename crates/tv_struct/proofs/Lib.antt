pub mod FlagLaws
pub mod HeldLaws
pub mod LayoutLaws
pub mod NowhereLaws
pub mod OrderLaws
pub mod PlaneDraws
pub mod RowLaws
pub mod WholeDraws
pub mod WordsLaws
-- the library of lemmas for the crates above: its statements stay as they are
pub mod Library
