-- The library of lemmas on choices that aren't made yet, for the crates above.
pub mod Above
pub mod Embedding
pub mod Laid
pub mod Narrowing
pub mod Splitting
-- What only this crate cites.
mod Copies
mod Moving
mod Under
