-- Laws of structures and embeddings, as statements.
use Rattle.std.specs.Prelude.{ℕ, ◌⊎◌, ◌↔◌}
use Rattle.tv_model.specs.Heap.{Heap}
use Rattle.tv_embedding_laws.specs.LogicalStructure.{LogicalStructure, ReadsHeap}
use Rattle.tv_embedding_laws.specs.Embedding.{EmbedsOn, Embeds, EmbedsWithMarks, IsBelow, IsBelowByValues}

-- the map that moves nothing embeds a structure in itself, and two embeddings compose, with marks too
pub record EmbeddingsCompose : Type 0 where
  pub identity : (s : LogicalStructure) → EmbedsWithMarks (λ u. u) s s
  pub composed : (f g : ℕ → ℕ) (r s t : LogicalStructure) → Embeds f r s → Embeds g s t
      → Embeds (λ u. g (f u)) r t
  pub composed_with_marks : (f g : ℕ → ℕ) (r s t : LogicalStructure) → EmbedsWithMarks f r s
      → EmbedsWithMarks g s t
      → EmbedsWithMarks (λ u. g (f u)) r t

-- two embeddings for the predicates of P compose
abbrev pub EmbeddingsOnCompose : (ℕ → Type 0) → Type 0
EmbeddingsOnCompose P =
    (f g : ℕ → ℕ) (r s t : LogicalStructure) → EmbedsOn P f r s → EmbedsOn P g s t
    → EmbedsOn P (λ u. g (f u)) r t

-- a map embeds for the predicates of P and for those of Q exactly where it does for those of either
abbrev pub EmbeddingsAddUp : (P Q : ℕ → Type 0) → Type 0
EmbeddingsAddUp P Q =
    (f : ℕ → ℕ) (s t : LogicalStructure)
    → (EmbedsOn P f s t × EmbedsOn Q f s t) ↔ EmbedsOn (λ pred. P pred ⊎ Q pred) f s t

-- a structure lies below another exactly where it does value by value
abbrev pub BelowIsByValues : Type 0
BelowIsByValues = (s t : LogicalStructure) → IsBelow s t ↔ IsBelowByValues s t

-- heaps of any size, read as structures, say what holds in them
abbrev pub HeapsReadAsStructures : Type 0
HeapsReadAsStructures = (h : Heap) → ReadsHeap h
