-- Heaps under other names of their individuals.
use Rattle.std.specs.Prelude.{ℕ, ◌≡◌, map}
use Rattle.std.specs.Option.{option_map}
use Rattle.tv_model.specs.Heap.{Heap}
use Rattle.tv_model.specs.Run.{Stage}
use Rattle.tv_model.specs.Truth.{Assignment}

-- the heap in which each individual u is named r u
abbrev pub renamed : (r : ℕ → ℕ) → Heap → Heap
renamed r h = record {
  individuals = map r h.individuals;
  extents = map (λ tuples. map (λ tuple. map r tuple) tuples) h.extents;
  fresh = option_map r h.fresh;
}

abbrev pub renamed_values : (r : ℕ → ℕ) → Assignment → Assignment
renamed_values r a = λ v. r (a v)

abbrev pub renamed_stage : (r : ℕ → ℕ) → Stage → Stage
renamed_stage r stage = record { edge = stage.edge; heap = renamed r stage.heap }

-- r renames individuals, and s gives them their old names back
pub record IsRenaming (r s : ℕ → ℕ) : Type 0 where
  pub back : (u : ℕ) → s (r u) ≡ u
  pub there : (w : ℕ) → r (s w) ≡ w

-- k is the heap h up to a renumbering of its individuals
abbrev pub IsRenumbered : (h k : Heap) → Type 0
IsRenumbered h k = (r s : ℕ → ℕ) × IsRenaming r s × (k ≡ renamed r h)
