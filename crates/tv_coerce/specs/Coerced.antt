-- The greatest stable structure below a structure (compare Sagiv, Reps and Wilhelm 2002, section 6.4).
use Rattle.std.specs.Prelude.{◌≡◌, List, Option, Some, None, All}
use Rattle.tv_model.specs.Heap.{Heap}
use Rattle.tv_model.specs.Program.{RuleForm}
use Rattle.tv_model.specs.Rules.{MeetsRule}
use Rattle.tv_embedding_laws.specs.Embedding.{IsHeapOf}
use Rattle.tv_stable_laws.specs.Stable.{IsGreatestStable, HasNoStable}
use Rattle.tv_structure_form.specs.StructureForm.{StructureForm, IsStructure, structure_of, arities_of}

-- t is the greatest stable structure below s, with its mark
pub record IsCoercedTable (rules : List RuleForm) (s t : StructureForm) : Type 0 where
  pub greatest : IsGreatestStable rules (structure_of s) (structure_of t)
  pub over : arities_of t ≡ arities_of s
  pub mark : t.fresh ≡ s.fresh
  pub is : IsStructure t

-- the structure found is that one, and none was found where no stable structure lies below s
abbrev pub CoercesTo : List RuleForm → StructureForm → Option StructureForm → Type 0
CoercesTo rules s None = HasNoStable rules (structure_of s)
CoercesTo rules s (Some t) = IsCoercedTable rules s t

-- each heap that meets the rules and embeds in s embeds in the structure found, and where none was found
-- there is no such heap
abbrev pub CoercesHeaps : List RuleForm → StructureForm → Option StructureForm → Type 0
CoercesHeaps rules s None = (h : Heap) → All (MeetsRule h) rules → ¬ IsHeapOf h (structure_of s)
CoercesHeaps rules s (Some t) =
    (h : Heap) → All (MeetsRule h) rules → IsHeapOf h (structure_of s) → IsHeapOf h (structure_of t)
