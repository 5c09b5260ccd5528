-- Heaps: finite first-order structures with two truth values.
use Rattle.std.specs.Prelude.{ℕ, ◌≡◌, List, [], length, Option, All, Contains, slice_get, unwrap_or}

-- a heap: its individuals, for each predicate by number the tuples of which it holds, and the
-- individual that a step has just added, if there is one
pub record Heap : Type 0 where
  pub individuals : List ℕ
  pub extents : List (List (List ℕ))
  pub fresh : Option ℕ

-- the tuples of which a predicate holds
abbrev pub extent : Heap → ℕ → List (List ℕ)
extent h pred = unwrap_or (slice_get h.extents pred) []

-- the predicate holds of the tuple
abbrev pub Holds : Heap → ℕ → List ℕ → Type 0
Holds h pred tuple = Contains (extent h pred) tuple

-- a list of n individuals of the heap
abbrev pub IsTuple : Heap → ℕ → List ℕ → Type 0
IsTuple h n tuple = (length tuple ≡ n) × All (Contains h.individuals) tuple
