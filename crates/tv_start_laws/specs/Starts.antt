-- The heaps that lie below a structure, and the two ways in which their number is kept small: each stands for
-- all that a renumbering makes of it.
use Rattle.std.specs.Prelude.{ℕ, ◌≡◌, ◌<◌, ◌==◌, ◌↔◌, false, List, map, length, sum, filter, All, Contains}
use Rattle.std.specs.Prelude.{slice_index}
use Rattle.std.specs.Prelude.{if◌then◌else◌}
use Rattle.std.specs.List.{range_with_len}
use Rattle.tv_kleene.specs.declared.K3.{K3}
use Rattle.tv_model.specs.Heap.{Heap}
use Rattle.tv_embedding_laws.specs.Embedding.{Embeds}
use Rattle.tv_embedding_laws.specs.LogicalStructure.{LogicalStructure, heap_structure}
use Rattle.tv_renaming_laws.specs.Renamed.{IsRenaming}
use Rattle.tv_start_laws.specs.Copies.{IsHeapCopy}
use Rattle.tv_structure_form.specs.StructureForm.{StructureForm, structure_of, summary_at, split}

-- the heap has the structure's individuals, and each of its values lies under the structure's
abbrev pub LiesBelow : Heap → LogicalStructure → Type 0
LiesBelow h t = Embeds (λ u. u) (heap_structure h) t

-- a copy of the heap is one of these
abbrev pub FitsBelow : Heap → LogicalStructure → Type 0
FitsBelow h t = (k : Heap) × IsHeapCopy h k × LiesBelow k t

-- ---- branches

-- a renaming, as the exchange of two individuals, and what takes it back
pub record Exchange : Type 0 where
  pub there : ℕ → ℕ
  pub back : ℕ → ℕ

-- the structure doesn't change by it
pub record KeepsStructure (t : LogicalStructure) (e : Exchange) : Type 0 where
  pub renaming : IsRenaming e.there e.back
  pub individuals : (u : ℕ) → Contains t.individuals u ↔ Contains t.individuals (e.there u)
  pub values : (pred : ℕ) (tuple : List ℕ) → All (Contains t.individuals) tuple
      → t.value pred (map e.there tuple) ≡ t.value pred tuple

-- the exchange of two individuals
abbrev pub exchange : (u w : ℕ) → Exchange
exchange u w = record {
  there = λ x. if x == u then w else if x == w then u else x;
  back = λ x. if x == u then w else if x == w then u else x;
}

-- where the exchanges take the tuple
abbrev pub images : List Exchange → List ℕ → List (List ℕ)
images exchanges tuple = map (λ e. map e.there tuple) exchanges

-- s is the structure with the value k at these tuples of the predicate; nothing is asked of its summaries
pub record IsSetTo (t : LogicalStructure) (pred : ℕ) (tuples : List (List ℕ)) (k : K3)
    (s : LogicalStructure) : Type 0 where
  pub individuals : s.individuals ≡ t.individuals
  pub there : (tuple : List ℕ) → Contains tuples tuple → s.value pred tuple ≡ k
  pub elsewhere : (q : ℕ) (tuple : List ℕ) → ¬ ((q ≡ pred) × Contains tuples tuple)
      → s.value q tuple ≡ t.value q tuple

-- ---- copies of individuals

-- the individuals that f takes to w
abbrev pub fibre : (f : ℕ → ℕ) → List ℕ → (w : ℕ) → List ℕ
fibre f us w = filter (λ u. f u == w) us

-- how many individuals go to each of the m from n on
abbrev pub fibre_sizes : (f : ℕ → ℕ) → List ℕ → (n m : ℕ) → List ℕ
fibre_sizes f us n m = map (λ w. length (fibre f us w)) (range_with_len n m)

-- how many copies there may be of each individual of the structure: one or more, and one where it isn't a
-- summary
pub record ArePartSizes (s : StructureForm) (parts : List ℕ) : Type 0 where
  pub one_part_each : length parts ≡ s.size
  pub some : (u : ℕ) → u < s.size → 0 < slice_index parts u
  pub ordinary : (u : ℕ) → u < s.size → summary_at s u ≡ false → slice_index parts u ≡ 1

-- there is a copy for each individual of the heap, which fits below the structure that has these copies
pub record IsCopied (s : StructureForm) (h : Heap) (parts : List ℕ) : Type 0 where
  pub are : ArePartSizes s parts
  pub cells : sum parts ≡ length h.individuals
  pub below : FitsBelow h (structure_of (split s parts))
