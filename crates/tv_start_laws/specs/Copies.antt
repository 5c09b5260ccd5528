-- Heaps that differ in the numbers of their individuals and in the order of their lists alone.
use Rattle.std.specs.Prelude.{ℕ, ◌≡◌, ◌↔◌, List, Contains}
use Rattle.tv_model.specs.Heap.{Heap, Holds}
use Rattle.tv_renaming_laws.specs.Renamed.{renamed, IsRenaming}

-- the two heaps have the same individuals, each predicate holds of the same tuples, and the mark is the same
pub record LookAlike (h k : Heap) : Type 0 where
  pub individuals : (u : ℕ) → Contains h.individuals u ↔ Contains k.individuals u
  pub holds : (q : ℕ) (tuple : List ℕ) → Holds h q tuple ↔ Holds k q tuple
  pub fresh : h.fresh ≡ k.fresh

-- k is a copy of h by the renaming r, which s takes back: it looks like h under the new names
pub record IsCopyBy (r s : ℕ → ℕ) (h k : Heap) : Type 0 where
  pub renaming : IsRenaming r s
  pub alike : LookAlike (renamed r h) k

abbrev pub IsHeapCopy : (h k : Heap) → Type 0
IsHeapCopy h k = (r s : ℕ → ℕ) × IsCopyBy r s h k
