pub mod BoundLaws
pub mod FitLaws
pub mod MapLaws
pub mod CandidateLaws
pub mod AllowedLaws
pub mod SearchLaws
