-- The library of lemmas on what changes move, and on notes of members, for the crates above.
pub mod MoveLaws
pub mod NotedLaws
