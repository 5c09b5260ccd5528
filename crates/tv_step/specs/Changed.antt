-- What is otherwise in a structure than in one that it came of, and the rules that may be unmet by it.
use Rattle.std.specs.Prelude.{ℕ, ◌≡◌, ◌⊎◌, ◌++◌, Bool, false, List, length, map, Option, None, Some, Contains}
use Rattle.tv_model.specs.declared.formula.PredId.{PredId}
use Rattle.tv_model.specs.Program.{ProgramForm, ActionForm, RuleForm}
use Rattle.tv_structure_form.specs.StructureForm.{StructureForm}
use Rattle.tv_coerce.specs.RuleSets.{IsStableBut}
use Rattle.tv_coerce_sets.specs.Turned.{AreAlike, HasSameValues}
use Rattle.tv_update_laws.specs.Applied.{moves_individuals}
use Rattle.tv_step.specs.Setting.{IsStableIn}
use Rattle.tv_step.specs.declared.changed.Reach.{Reach}
use Rattle.tv_step.specs.declared.changed.Reach.TheVariants.{Anywhere, Of}

-- the structures are alike, and only the values of these predicates may differ
pub record AreAlikeBut (preds : List ℕ) (s t : StructureForm) : Type 0 where
  pub alike : AreAlike s t
  pub others : (q : ℕ) → Contains preds q ⊎ HasSameValues q s t

-- t differs from s there alone
abbrev pub DiffersWithin : Reach → (s t : StructureForm) → Type 0
DiffersWithin Anywhere s t = Unit {0}
DiffersWithin (Of updates preds) s t =
    AreAlikeBut (map (λ w. w.pred.0) updates.now ++ map (λ p. p.0) preds.now) s t

-- where the action moves no individuals, the predicates are those that it updates, and those of its plan
abbrev pub IsReachOf : ActionForm → List PredId → Reach → Type 0
IsReachOf action plan Anywhere = Unit {0}
IsReachOf action plan (Of updates preds) =
    (moves_individuals action ≡ false) × (map (λ w. w.pred.0) updates.now ≡ map (λ w. w.pred) action.updates)
    × (preds.now ≡ plan)

-- only the rules found may be unmet in the structure; where none is told, it is stable
abbrev pub IsFew : ProgramForm → List RuleForm → StructureForm → Option (List Bool) → Type 0
IsFew p rules s None = IsStableIn p s
IsFew p rules s (Some set) = (length set ≡ length rules) × IsStableBut rules set s
