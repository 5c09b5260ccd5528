-- What the making of the new structures asks for.
use Rattle.std.proofs.Common.{ℕ, ◌≡◌, ◌<◌, List, length, map, Option, None, Some, slice_get, refl, sym, subst}
use Rattle.std.proofs.Common.{◌∙◌}
use Rattle.std.proofs.Common.{arith, Contains}
use Rattle.std.proofs.lemmas.List.{length-map}
use Rattle.std.proofs.lemmas.Option.{slice_get_within}
use Rattle.tv_model.specs.declared.formula.PredId.{PredId}
use Rattle.tv_model.specs.declared.program.Action.{Action}
use Rattle.tv_model.specs.declared.program.Mode.{Mode}
use Rattle.tv_model.specs.declared.program.Program.{Program}
use Rattle.tv_model.specs.Form.{Form}
use Rattle.tv_model.specs.Program.{ProgramForm, PredForm, KindForm, KCore, KDefined, ActionForm, UpdateForm}
use Rattle.tv_model.specs.Program.{action_of, pred_of, program_of}
use Rattle.tv_model.specs.Truth.{Assignment}
use Rattle.tv_model.proofs.Lists.{Contains-map}
use Rattle.tv_structure_form.specs.StructureForm.{StructureForm, unmarked}
use Rattle.tv_eval.specs.ScratchForm.{ScratchForm}
use Rattle.tv_update_laws.specs.Applied.{kind_at, IsChanged}
use Rattle.tv_update_laws.proofs.Predicates.{defined-found}
use Rattle.tv_update.specs.New.{CanFinish}
use Rattle.tv_update.specs.Plan.{IsPlan}
use Rattle.tv_update.specs.Updated.{CanApply, AreMade}
use Rattle.tv_update.proofs.Applies.{each-by_recursion}

-- the planned predicates are some of the program
planned-below : (p : ProgramForm) (mode : Mode) (action : ActionForm) (order : List ℕ)
    → IsPlan p mode action order → (q : ℕ) → Contains order q → q < length p.preds
planned-below p mode action order plan q at =
    let At : Option UpdateForm → Type 0 = λ o. IsChanged action plan.changed o (kind_at p q)
    in by_kind (kind_at p q) (λ vars body k. defined-found p q vars body k)
    (subst At ((plan.members q).0 at).1 ((plan.are_changed q).0 ((plan.members q).0 at).0))
  where
    by_kind : (kind : KindForm)
        → ((vars : List ℕ) (body : Form) → kind ≡ KDefined vars body
        → (d : PredForm) × (slice_get p.preds q ≡ Some d) × (d.kind ≡ KDefined vars body))
        → IsChanged action plan.changed None kind → q < length p.preds
    by_kind KCore found never = absurd never
    by_kind (KDefined vars body) found any =
        slice_get_within p.preds q (found vars body refl).0 (found vars body refl).1

pub can_finish : (program : Program) (action : Action) (mode : Mode) (places : List (Option ℕ))
    (m updated : StructureForm) (room : ScratchForm)
    (picks : Assignment) (order : List PredId) → CanApply program action places m room
    → AreMade (program_of program) mode m picks (action_of action).updates m updated
    → IsPlan (program_of program) mode (action_of action) (map (λ x. x.0) order)
    → CanFinish program order updated room
can_finish program action mode places m updated room picks order can made plan = record {
  valid = can.valid;
  over = made.like.over ∙ can.over;
  preds = each-by_recursion (λ (x : PredId). x.0 < length program.vocab.preds) order (λ x at.
      omega (
        arith,
        planned-below (program_of program) mode (action_of action) (map (λ y. y.0) order) plan x.0
            (Contains-map (λ (y : PredId). y.0) x order at),
        length-map program.vocab.preds pred_of,
      ));
  ordered = plan.ordered;
  made = can.made;
}

-- and so in the structure without its mark
pub can_finish_unmarked : (program : Program) (order : List PredId) (updated new : StructureForm) (room : ScratchForm)
    → new ≡ unmarked updated → CanFinish program order updated room → CanFinish program order new room
can_finish_unmarked program order updated new room e can =
    subst (λ s. CanFinish program order s room) (sym e) (record {
      valid = can.valid;
      over = can.over;
      preds = can.preds;
      ordered = can.ordered;
      made = can.made;
    })
