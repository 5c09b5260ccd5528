use Rattle.std.proofs.Common.{◌≡◌, ◌∙◌, Bool, List, length, map, sym, ap, subst, All}
use Rattle.std.proofs.lemmas.Result.{IfOk-weaker}
use Rattle.tv_model.specs.declared.formula.PredId.{PredId}
use Rattle.tv_model.specs.Program.{program_of, action_of}
use Rattle.tv_structure_form.specs.StructureForm.{StructureForm}
use Rattle.tv_eval.specs.AssignmentForm.{assignment_of}
use Rattle.tv_update.specs.Kept.{flag_choices}
use Rattle.tv_update.specs.New.{CanFinish, AreFinished}
use Rattle.tv_update.specs.Update.{IsGivenOf}
use Rattle.tv_update.specs.Updated.{keep_values}
use Rattle.tv_update.proofs.Finishes.{can_finish}
use Rattle.tv_update.proofs.Given.{flags_fit, finished_are_given}
use Rattle.tv_update.proofs.stage.finish_by.Goals as goal

pub new_structures-requires-clause-can : goal.new_structures-requires-clause-can
new_structures-requires-clause-can c =
    subst (λ order. CanFinish c.args.applied.now.program.now order c.args.updated.now
    c.args.scratch.now)
    (sym c.as_slice.ensures)
    (can_finish c.args.applied.now.program.now c.args.applied.now.action.now c.args.applied.now.mode
    c.args.applied.now.picks.now
    c.args.middle.now c.args.updated.now c.args.scratch.now
    (assignment_of c.args.applied.now.picks.now) c.args.plan.now
    c.requires.can c.requires.made c.requires.plan)

pub new_structures-requires-clause-flags : goal.new_structures-requires-clause-flags
new_structures-requires-clause-flags c =
    let listed : c.as_slice-2.result.now ≡ flag_choices
    (keep_values c.args.middle.now (assignment_of c.args.applied.now.picks.now)
    (action_of c.args.applied.now.action.now).retain)
    = c.as_slice-2.ensures.value ∙ c.in_ok-choices.ensures
    ∙ ap flag_choices c.requires.keep
    in subst (All (λ flags. length flags ≡ c.args.updated.now.size)) (sym listed)
    (subst (λ n. All (λ flags. length flags ≡ n)
    (flag_choices (keep_values c.args.middle.now (assignment_of c.args.applied.now.picks.now)
    (action_of c.args.applied.now.action.now).retain)))
    (sym c.requires.made.like.size)
    (flags_fit c.args.middle.now (assignment_of c.args.applied.now.picks.now)
    (action_of c.args.applied.now.action.now)))

pub returns-clause-given : goal.returns-clause-given
returns-clause-given c =
    let listed : c.as_slice-2.result.now ≡ flag_choices
    (keep_values c.args.middle.now (assignment_of c.args.applied.now.picks.now)
    (action_of c.args.applied.now.action.now).retain)
    = c.as_slice-2.ensures.value ∙ c.in_ok-choices.ensures
    ∙ ap flag_choices c.requires.keep
    in let Finished : List PredId → List (List Bool) → List StructureForm → Type 0
    = λ order choices ts. AreFinished (program_of c.args.applied.now.program.now)
    (map (λ p. p.0) order) c.args.updated.now choices ts
    in IfOk-weaker c.new_structures.result (Finished c.as_slice.result.now c.as_slice-2.result.now)
    (IsGivenOf (program_of c.args.applied.now.program.now) c.args.applied.now.mode
    (action_of c.args.applied.now.action.now)
    (assignment_of c.args.applied.now.picks.now) c.args.middle.now)
    (λ ts done. finished_are_given (program_of c.args.applied.now.program.now) c.args.applied.now.mode
    (action_of c.args.applied.now.action.now)
    (assignment_of c.args.applied.now.picks.now) c.args.middle.now c.args.updated.now
    (map (λ p. p.0) c.args.plan.now) ts
    c.size.ensures.kept c.requires.made c.requires.plan
    (subst (λ order. Finished order
    (flag_choices (keep_values c.args.middle.now (assignment_of c.args.applied.now.picks.now)
    (action_of c.args.applied.now.action.now).retain)) ts)
    c.as_slice.ensures (subst (λ choices. Finished c.as_slice.result.now choices ts) listed done)))
    c.new_structures.ensures.structures
