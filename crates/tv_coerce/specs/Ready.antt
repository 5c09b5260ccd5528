-- What coerce needs of the rules, the structure and the room.
use Rattle.std.specs.Prelude.{ℕ, ◌≡◌, List, length, Some, All, slice_get}
use Rattle.tv_model.specs.Program.{HeadForm, HNever, HAtom, HSame, RuleForm}
use Rattle.tv_model.specs.Valid.{IsFormulaOver, IsVariable}
use Rattle.tv_stable_laws.specs.Laws.{IsPlainRule}
use Rattle.tv_structure_form.specs.StructureForm.{StructureForm, arities_of}
use Rattle.tv_eval.specs.ScratchForm.{ScratchForm, HasScratchFor}

-- a head over predicates of these arities, with variables in range
abbrev pub IsHeadOver : (arities : List ℕ) → HeadForm → Type 0
IsHeadOver arities HNever = Unit {0}
IsHeadOver arities (HAtom flag q vars) = (slice_get arities q ≡ Some (length vars)) × All IsVariable vars
IsHeadOver arities (HSame flag v w) = IsVariable v × IsVariable w

-- a rule over predicates of these arities
pub record IsRuleOver (arities : List ℕ) (rule : RuleForm) : Type 0 where
  pub body : IsFormulaOver arities rule.body
  pub head : IsHeadOver arities rule.head

-- the rules are over the structure's predicates, have heads of at most two places, don't speak of a fresh
-- individual, and there is room for their bodies
pub record CanCoerce (rules : List RuleForm) (s : StructureForm) (scratch : ScratchForm) : Type 0 where
  pub over : All (IsRuleOver (arities_of s)) rules
  pub plain : All IsPlainRule rules
  pub fits : All (λ rule. HasScratchFor scratch rule.body s.size) rules
