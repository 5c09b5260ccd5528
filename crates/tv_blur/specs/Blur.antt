-- Blur, or canonical abstraction: individuals of equal name become one.
use Rattle.std.specs.Prelude.{ℕ, ◌≡◌, ◌<◌, ◌↔◌, List, None}
use Rattle.std.specs.declared.cmp.Ordering.TheVariants.{Less}
use Rattle.tv_embedding_laws.specs.LogicalStructure.{LogicalStructure}
use Rattle.tv_structure_form.specs.StructureForm.{StructureForm, structure_of, arities_of}
use Rattle.tv_blur.specs.Merged.{IsMerged}
use Rattle.tv_blur.specs.Names.{canonical_name, name_cmp}

-- place takes the individuals below n to numbers in the order of their names, equal names to one number
abbrev pub FollowsNames : (preds : List ℕ) → LogicalStructure → (n : ℕ) → (place : ℕ → ℕ) → Type 0
FollowsNames preds s n place =
    (u w : ℕ) → u < n → w < n → (place u < place w)
    ↔ (name_cmp (canonical_name preds s u) (canonical_name preds s w) ≡ Less)

-- t is the blur of s by the map to the places of names: individuals of equal name are merged, they stand
-- in the order of their names, and none is marked
pub record IsBlurBy (place : ℕ → ℕ) (preds : List ℕ) (s t : StructureForm) : Type 0 where
  pub merged : IsMerged place (structure_of s) (structure_of t)
  pub order : FollowsNames preds (structure_of s) s.size place
  pub over : arities_of t ≡ arities_of s
  pub unmarked : t.fresh ≡ None

abbrev pub IsBlur : (preds : List ℕ) → (s t : StructureForm) → Type 0
IsBlur preds s t = (place : ℕ → ℕ) × IsBlurBy place preds s t

-- the structure is blurred: its individuals have different names and stand in their order, none marked
pub record IsBlurred (preds : List ℕ) (s : StructureForm) : Type 0 where
  pub order : FollowsNames preds (structure_of s) s.size (λ u. u)
  pub unmarked : s.fresh ≡ None
