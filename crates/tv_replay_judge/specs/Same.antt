-- Values of predicates: those of a definition, and those of another structure.
use Rattle.std.specs.Prelude.{ℕ, ◌≡◌, List, length, Some, All}
use Rattle.tv_eval.specs.ScratchForm.{ScratchForm}
use Rattle.tv_model.specs.Form.{Form}
use Rattle.tv_model.specs.Program.{PredForm, KindForm, KCore, KDefined, ActionForm, UpdateForm}
use Rattle.tv_model.specs.Rules.{blank}
use Rattle.tv_model.specs.Step.{update_for}
use Rattle.tv_model.specs.Truth.{put_all}
use Rattle.tv_model.specs.Valid.{IsVariable, IsOver}
use Rattle.tv_structure_form.specs.StructureForm.{StructureForm, structure_of, value_at}
use Rattle.tv_struct.specs.StructureRows.{HasArity}
use Rattle.tv_structure_form.specs.TableForm.{AreIndividuals}
use Rattle.tv_eval_laws.specs.Value.{value}
use Rattle.tv_replay_judge.specs.Trying.{CanTell}

-- both structures have the same values of the predicate
abbrev pub HasSameValues : (s t : StructureForm) → (pred arity : ℕ) → Type 0
HasSameValues s t pred arity =
    (tuple : List ℕ) → length tuple ≡ arity → AreIndividuals t.size tuple
    → value_at s pred tuple ≡ value_at t pred tuple

-- the predicate isn't both defined and updated, or both structures have the same values of it
abbrev pub IsSameAt : ActionForm → (given new : StructureForm) → ℕ → PredForm → Type 0
IsSameAt action given new q d =
    ¬ (d.kind ≡ KCore) → (w : UpdateForm) → update_for q action.updates ≡ Some w
    → HasSameValues given new q d.arity

-- the predicate has the values of the formula, with the tuple put for the variables
abbrev pub HasValuesOf : StructureForm → (pred : ℕ) → (vars : List ℕ) → Form → Type 0
HasValuesOf s pred vars f =
    (tuple : List ℕ) → length tuple ≡ length vars → AreIndividuals s.size tuple
    → value (structure_of s) (put_all blank vars tuple) f ≡ value_at s pred tuple

-- the formula has these variables alone, as many as the predicate has places, and can be evaluated
pub record CanCompare (s : StructureForm) (room : ScratchForm) (pred : ℕ) (vars : List ℕ)
    (f : Form) : Type 0 where
  pub tell : CanTell s room f
  pub variables : All IsVariable vars
  pub over : IsOver vars f
  pub arity : HasArity s pred (length vars)

-- the same of a definition, which has as many variables as its predicate has places
abbrev pub CanCompareKind : StructureForm → ScratchForm → (pred arity : ℕ) → KindForm → Type 0
CanCompareKind s room pred arity KCore = Unit {0}
CanCompareKind s room pred arity (KDefined vars body) =
    CanCompare s room pred vars body × (length vars ≡ arity)

-- a definition has so many variables
abbrev pub HasVariables : (arity : ℕ) → KindForm → Type 0
HasVariables arity KCore = Unit {0}
HasVariables arity (KDefined vars body) = length vars ≡ arity
