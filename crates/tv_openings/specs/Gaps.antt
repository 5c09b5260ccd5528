-- Unknown values of a structure.
use Rattle.std.specs.Prelude.{ℕ, ◌≡◌, ◌≢◌, ◌<◌, List, [], ◌∷◌, Option, None, Some}
use Rattle.tv_kleene.specs.declared.K3.TheVariants.{Half}
use Rattle.tv_structure_form.specs.StructureForm.{StructureForm, table_of, value_at}
use Rattle.tv_structure_form.specs.TableForm.{HasEntry}
use Rattle.tv_struct.specs.TupleForm.{tuple_of}
use Rattle.tv_openings.specs.declared.gap.Gap.{Gap}

-- the structure has the entry, and its value is unknown
pub record IsGap (s : StructureForm) (gap : Gap) : Type 0 where
  pub entry : HasEntry (table_of s) gap.pred.0 (tuple_of gap.tuple)
  pub unknown : value_at s gap.pred.0 (tuple_of gap.tuple) ≡ Half

-- it is an unknown value of the structure; none where each value of the predicate is known
abbrev pub IsGapOf : StructureForm → (pred : ℕ) → Option Gap → Type 0
IsGapOf s pred None = (tuple : List ℕ) → value_at s pred tuple ≢ Half
IsGapOf s pred (Some gap) = IsGap s gap

-- the same of all predicates
abbrev pub IsGapIn : StructureForm → Option Gap → Type 0
IsGapIn s None = (pred : ℕ) (tuple : List ℕ) → value_at s pred tuple ≢ Half
IsGapIn s (Some gap) = IsGap s gap

-- the same of the pairs with first member u
abbrev pub IsGapInRow : StructureForm → (pred u : ℕ) → Option Gap → Type 0
IsGapInRow s pred u None = (w : ℕ) → w < s.size → value_at s pred (u ∷ w ∷ []) ≢ Half
IsGapInRow s pred u (Some gap) = IsGap s gap
