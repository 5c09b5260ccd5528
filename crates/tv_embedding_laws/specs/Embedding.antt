-- Embedding of structures: the order of information on structures (Sagiv, Reps and Wilhelm 2002,
-- section 4.3, with a map of individuals).
use Rattle.std.specs.Prelude.{ℕ, ◌≡◌, ◌≢◌, ◌↔◌, List, map, Some, All, Contains, IsTrue, IsSome}
use Rattle.tv_kleene.specs.Kleene.{LiesUnder}
use Rattle.tv_model.specs.Heap.{Heap}
use Rattle.tv_embedding_laws.specs.LogicalStructure.{LogicalStructure, heap_structure}

-- f embeds s in t as far as the predicates of P go: it is onto, each value of these predicates lies
-- under that of the tuple's image, a summary goes to a summary, and so do several individuals that go
-- to one
pub record EmbedsOn (P : ℕ → Type 0) (f : ℕ → ℕ) (s t : LogicalStructure) : Type 0 where
  pub into : (u : ℕ) → Contains s.individuals u → Contains t.individuals (f u)
  pub onto : (w : ℕ) → Contains t.individuals w → (u : ℕ) × Contains s.individuals u × (f u ≡ w)
  pub values : (pred : ℕ) → P pred → (tuple : List ℕ) → All (Contains s.individuals) tuple
      → LiesUnder (s.value pred tuple) (t.value pred (map f tuple))
  pub summaries : (u : ℕ) → Contains s.individuals u → IsTrue (s.is_summary u) → IsTrue (t.is_summary (f u))
  pub several : (u w : ℕ) → Contains s.individuals u → Contains s.individuals w → u ≢ w → f u ≡ f w
      → IsTrue (t.is_summary (f u))

-- f embeds s in t
abbrev pub Embeds : (ℕ → ℕ) → LogicalStructure → LogicalStructure → Type 0
Embeds f s t = EmbedsOn (λ pred. Unit {0}) f s t

-- f takes the fresh individual of s, and no other, to the fresh individual of t, and neither or both
-- have one
pub record KeepsMark (f : ℕ → ℕ) (s t : LogicalStructure) : Type 0 where
  pub marked : (u : ℕ) → Contains s.individuals u → (s.fresh ≡ Some u) ↔ (t.fresh ≡ Some (f u))
  pub both : IsSome s.fresh ↔ IsSome t.fresh

-- f embeds s in t with marks
abbrev pub EmbedsWithMarks : (ℕ → ℕ) → LogicalStructure → LogicalStructure → Type 0
EmbedsWithMarks f s t = Embeds f s t × KeepsMark f s t

-- s lies below t: both have the same individuals, and the map that moves nothing is an embedding
abbrev pub IsBelow : LogicalStructure → LogicalStructure → Type 0
IsBelow s t = (s.individuals ≡ t.individuals) × Embeds (λ u. u) s t

-- the same value by value
pub record IsBelowByValues (s t : LogicalStructure) : Type 0 where
  pub individuals : s.individuals ≡ t.individuals
  pub values : (pred : ℕ) (tuple : List ℕ) → All (Contains s.individuals) tuple
      → LiesUnder (s.value pred tuple) (t.value pred tuple)
  pub summaries : (u : ℕ) → Contains s.individuals u → IsTrue (s.is_summary u) → IsTrue (t.is_summary u)

-- some map embeds s in t
abbrev pub IsEmbedded : LogicalStructure → LogicalStructure → Type 0
IsEmbedded s t = (f : ℕ → ℕ) × Embeds f s t

-- the heap embeds in the structure
abbrev pub IsHeapOf : Heap → LogicalStructure → Type 0
IsHeapOf h t = IsEmbedded (heap_structure h) t
