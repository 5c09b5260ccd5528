-- Laws of merging and of blur, as statements.
use Rattle.std.specs.Prelude.{ℕ, ◌≡◌, ◌<◌, List, All}
use Rattle.tv_model.specs.Program.{RuleForm}
use Rattle.tv_embedding_laws.specs.LogicalStructure.{LogicalStructure}
use Rattle.tv_embedding_laws.specs.Embedding.{Embeds}
use Rattle.tv_stable_laws.specs.Stable.{IsStable}
use Rattle.tv_stable_laws.specs.Laws.{IsPlainRule}
use Rattle.tv_structure_form.specs.StructureForm.{StructureForm, IsStructure, structure_of}
use Rattle.tv_blur.specs.Merged.{IsMerged}
use Rattle.tv_blur.specs.Names.{canonical_name}
use Rattle.tv_blur.specs.Blur.{IsBlurBy, IsBlur, IsBlurred}

-- a structure embeds in what merging gives, by the map
abbrev pub MergingCovers : Type 0
MergingCovers = (m : ℕ → ℕ) (s t : LogicalStructure) → IsMerged m s t → Embeds m s t

-- what merging gives of a stable structure is stable
abbrev pub MergingKeepsStable : Type 0
MergingKeepsStable =
    (m : ℕ → ℕ) (s t : LogicalStructure) (rules : List RuleForm) → IsMerged m s t → All IsPlainRule rules
    → IsStable rules s → IsStable rules t

-- the blur of a stable structure is stable
abbrev pub BlurKeepsStable : Type 0
BlurKeepsStable =
    (preds : List ℕ) (s t : StructureForm) (rules : List RuleForm) → IsBlur preds s t → All IsPlainRule rules
    → IsStable rules (structure_of s) → IsStable rules (structure_of t)

-- each individual keeps its name in the blur, in which names differ and stand in order
pub record BlurNames (place : ℕ → ℕ) (preds : List ℕ) (s t : StructureForm) : Type 0 where
  pub kept : (u : ℕ) → u < s.size
      → canonical_name preds (structure_of t) (place u) ≡ canonical_name preds (structure_of s) u
  pub blurred : IsBlurred preds t

abbrev pub BlurKeepsNames : Type 0
BlurKeepsNames =
    (place : ℕ → ℕ) (preds : List ℕ) (s t : StructureForm) → IsBlurBy place preds s t
    → BlurNames place preds s t

-- there is one blur, and that of a blurred structure is the structure itself
pub record BlurIsOne : Type 0 where
  pub one : (preds : List ℕ) (s t r : StructureForm) → IsStructure t → IsStructure r
      → IsBlur preds s t → IsBlur preds s r → t ≡ r
  pub again : (preds : List ℕ) (s t : StructureForm) → IsStructure s → IsStructure t
      → IsBlurred preds s → IsBlur preds s t → t ≡ s
