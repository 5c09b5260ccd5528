-- The given update that alone loses a case.
use Rattle.std.specs.Prelude.{ℕ, suc, ◌==◌, Bool, List, [], ◌∷◌, All, if◌then◌else◌}
use Rattle.tv_model.specs.declared.program.Mode.TheVariants.{Recompute}
use Rattle.tv_model.specs.Heap.{Heap, Holds, IsTuple}
use Rattle.tv_model.specs.Program.{ProgramForm, PredForm, KCore, ActionForm, UpdateForm}
use Rattle.tv_model.specs.Step.{AllowsChange}
use Rattle.tv_model.specs.Truth.{Assignment}
use Rattle.tv_structure_form.specs.StructureForm.{StructureForm}
use Rattle.tv_step_laws.specs.Transfer.{GivesStructures, HasNoOpening}
use Rattle.tv_losses_laws.specs.Cases.{CaseForm}

-- the predicate, without its definition where the flag is true
abbrev pub cored_pred : Bool → PredForm → PredForm
cored_pred on d = record {
  name = d.name;
  arity = d.arity;
  kind = if on then KCore else d.kind;
  abs = d.abs;
  props = d.props;
}

-- the predicates, the first of which has the number k, where that of the number q has no definition
abbrev pub cored_preds : (q k : ℕ) → List PredForm → List PredForm
cored_preds q k [] = []
cored_preds q k (d ∷ preds) = cored_pred (k == q) d ∷ cored_preds q (suc k) preds

-- the program in which the predicate q is core: in mode Recompute the update that is given for it counts,
-- and no other one that is given for a defined predicate
abbrev pub with_core : ℕ → ProgramForm → ProgramForm
with_core q p = record {
  preds = cored_preds q 0 p.preds;
  rules = p.rules;
  actions = p.actions;
  edges = p.edges;
  nodes = p.nodes;
}

-- where of all given updates that of q alone counts, rules drop each structure that the update gives
pub record IsDroppedByUpdate (p : ProgramForm) (action : ActionForm) (c : CaseForm) (q : ℕ) : Type 0 where
  pub given : List StructureForm
  pub are_given : GivesStructures (with_core q p) Recompute action c.at_hand c.picked given
  pub none : All (HasNoOpening p) given

-- the update agrees with what q, of this arity, holds of in the new heap
abbrev pub AgreesWithUpdate : (q arity : ℕ) → (w : UpdateForm) → Assignment → (middle new : Heap) → Type 0
AgreesWithUpdate q arity w picked middle new =
    (tuple : List ℕ) → IsTuple new arity tuple
    → AllowsChange middle picked w.vars w.change tuple (Holds new q tuple)
