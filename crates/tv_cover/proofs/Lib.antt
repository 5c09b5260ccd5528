pub mod CoverLaws
pub mod FirstCovers
pub mod GlanceLaws
pub mod NotedLaws
