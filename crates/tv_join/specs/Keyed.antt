-- When structures have one key, and the structure that keeps of another what its key says.
use Rattle.std.specs.Prelude.{ℕ, ◌≡◌, ◌<◌, ◌≤◌, ◌⊎◌, Bool, false, List, None, IsTrue, length, slice_index_or}
use Rattle.tv_kleene.specs.declared.K3.TheVariants.{No}
use Rattle.tv_structure_form.specs.StructureForm.{StructureForm, IsStructure, arities_of, value_at}
use Rattle.tv_structure_form.specs.StructureForm.{summary_at}
use Rattle.tv_struct.specs.StructureRows.{HasArity}

-- the predicate counts for keys
abbrev pub Counts : (counted : List Bool) → (pred : ℕ) → Type 0
Counts counted pred = IsTrue (slice_index_or counted pred false)

-- there is a flag for each predicate, and no binary one counts
pub record AreFlags (counted : List Bool) (s : StructureForm) : Type 0 where
  pub count : length counted ≡ length (arities_of s)
  pub small : (pred : ℕ) → Counts counted pred → ¬ HasArity s pred 2

-- both have as many individuals, and the same values of the predicates that count
pub record SameKey (counted : List Bool) (s t : StructureForm) : Type 0 where
  pub size : s.size ≡ t.size
  pub over : arities_of s ≡ arities_of t
  pub values : (pred : ℕ) → Counts counted pred → (tuple : List ℕ)
      → value_at s pred tuple ≡ value_at t pred tuple

-- q has the individuals of s and the values of the predicates that count, and else No and no summary; so
-- structures have one such structure exactly where they have one key
pub record IsSkeleton (counted : List Bool) (s q : StructureForm) : Type 0 where
  pub is : IsStructure q
  pub size : s.size ≡ q.size
  pub over : arities_of s ≡ arities_of q
  pub values : (pred : ℕ) → Counts counted pred → (tuple : List ℕ)
      → value_at s pred tuple ≡ value_at q pred tuple
  pub others : (pred : ℕ) → ¬ Counts counted pred → (tuple : List ℕ) → value_at q pred tuple ≡ No
  pub summaries : (u : ℕ) → summary_at q u ≡ false
  pub unmarked : q.fresh ≡ None

-- the first n predicates are copied where they count, and else there is No
pub record HasCopied (counted : List Bool) (s : StructureForm) (n : ℕ) (q : StructureForm) : Type 0 where
  pub size : s.size ≡ q.size
  pub over : arities_of s ≡ arities_of q
  pub values : (pred : ℕ) → pred < n → Counts counted pred → (tuple : List ℕ)
      → value_at s pred tuple ≡ value_at q pred tuple
  pub others : (pred : ℕ) → (¬ Counts counted pred) ⊎ (n ≤ pred) → (tuple : List ℕ)
      → value_at q pred tuple ≡ No
  pub summaries : (u : ℕ) → summary_at q u ≡ false
  pub unmarked : q.fresh ≡ None
