-- The library of lemmas on structures and embeddings, for the crates above.
pub mod EmbeddingLaws
