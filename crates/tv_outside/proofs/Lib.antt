-- Lemmas of this crate's own.
mod Reading
mod Stores
mod Writing
