-- How much a structure leaves open, and what writes do to it.
use Rattle.std.specs.Prelude.{ℕ, ◌≡◌, ◌<◌, ◌+◌, Bool, true, false, List}
use Rattle.std.specs.List.{sum_by}
use Rattle.tv_kleene.specs.declared.K3.{K3}
use Rattle.tv_kleene.specs.declared.K3.TheVariants.{No, Half, Yes}
use Rattle.tv_kleene.specs.Kleene.{LiesUnder}
use Rattle.tv_embedding_laws.specs.Embedding.{IsBelow}
use Rattle.tv_structure_form.specs.TableForm.{PlaneForm, HasEntry}
use Rattle.tv_structure_form.specs.StructureForm.{StructureForm, IsStructure, table_of, value_at, summary_at}
use Rattle.tv_structure_form.specs.StructureForm.{with_value, with_summary, structure_of}

-- 1 where a value is unknown
abbrev pub half_of : K3 → ℕ
half_of No = 0
half_of Half = 1
half_of Yes = 0

-- 1 where it is unknown how many cells an individual stands for
abbrev pub half_of_flag : Bool → ℕ
half_of_flag false = 0
half_of_flag true = 1

abbrev pub row_halves : List K3 → ℕ
row_halves row = sum_by half_of row

abbrev pub plane_halves : PlaneForm → ℕ
plane_halves plane = sum_by row_halves plane.rows

-- how many entries are Half, each summary counted as one too
abbrev pub half_count : StructureForm → ℕ
half_count s = sum_by plane_halves s.planes + sum_by half_of_flag s.summaries

-- a write changes the count by what it writes and what stood there, and by nothing else
pub record HalvesAreCounted : Type 0 where
  pub entries : (s : StructureForm) (pred : ℕ) (tuple : List ℕ) (k : K3) → IsStructure s
      → HasEntry (table_of s) pred tuple
      → half_count (with_value s pred tuple k) + half_of (value_at s pred tuple) ≡ half_count s + half_of k
  pub summaries : (s : StructureForm) (u : ℕ) (on : Bool) → IsStructure s → u < s.size
      → half_count (with_summary s u on) + half_of_flag (summary_at s u) ≡ half_count s + half_of_flag on

-- where an entry gets a value that lies under its own, or a summary becomes an ordinary individual, the
-- new structure lies below the old one
pub record LoweringGoesBelow : Type 0 where
  pub entries : (s : StructureForm) (pred : ℕ) (tuple : List ℕ) (k : K3) → IsStructure s
      → HasEntry (table_of s) pred tuple
      → LiesUnder k (value_at s pred tuple)
      → IsBelow (structure_of (with_value s pred tuple k)) (structure_of s)
  pub summaries : (s : StructureForm) (u : ℕ) → IsStructure s → u < s.size
      → IsBelow (structure_of (with_summary s u false)) (structure_of s)
