-- The order of information on structures with the same individuals, and their joins.
use Rattle.std.specs.Prelude.{ℕ, ◌≡◌, ◌||◌, List, None, IsTrue}
use Rattle.tv_kleene.specs.Kleene.{LiesUnder, join_of}
use Rattle.tv_structure_form.specs.TableForm.{HasEntry}
use Rattle.tv_structure_form.specs.StructureForm.{StructureForm, IsStructure, arities_of, table_of, value_at}
use Rattle.tv_structure_form.specs.StructureForm.{summary_at}

-- they have the same individuals and predicates
abbrev pub HaveOneShape : (s t : StructureForm) → Type 0
HaveOneShape s t = (s.size ≡ t.size) × (arities_of s ≡ arities_of t)

-- s lies under t: each value under that of t, and each summary is one in t
pub record IsUnder (s t : StructureForm) : Type 0 where
  pub size : s.size ≡ t.size
  pub over : arities_of s ≡ arities_of t
  pub values : (pred : ℕ) (tuple : List ℕ) → LiesUnder (value_at s pred tuple) (value_at t pred tuple)
  pub summaries : (u : ℕ) → IsTrue (summary_at s u) → IsTrue (summary_at t u)

-- r is the join of s and t: it has their individuals, the joins of their values, and a summary where one
-- of them has it
pub record IsJoined (s t r : StructureForm) : Type 0 where
  pub is : IsStructure r
  pub size : r.size ≡ s.size
  pub over : arities_of r ≡ arities_of s
  pub values : (pred : ℕ) (tuple : List ℕ) → value_at r pred tuple
      ≡ join_of (value_at s pred tuple) (value_at t pred tuple)
  pub summaries : (u : ℕ) → summary_at r u ≡ (summary_at s u || summary_at t u)
  pub unmarked : r.fresh ≡ None

-- the values of the predicate are those of s and t, joined
abbrev pub HasJoinedValues : (pred : ℕ) → (s t r : StructureForm) → Type 0
HasJoinedValues pred s t r = (tuple : List ℕ) → HasEntry (table_of r) pred tuple
    → value_at r pred tuple ≡ join_of (value_at s pred tuple) (value_at t pred tuple)

-- r is s but for its summaries, which are those of s and t
pub record HasJoinedSummaries (s t r : StructureForm) : Type 0 where
  pub is : IsStructure r
  pub size : r.size ≡ s.size
  pub over : arities_of r ≡ arities_of s
  pub values : (pred : ℕ) (tuple : List ℕ) → value_at r pred tuple ≡ value_at s pred tuple
  pub summaries : (u : ℕ) → summary_at r u ≡ (summary_at s u || summary_at t u)
  pub unmarked : r.fresh ≡ None
