use Rattle.std.proofs.Common.{true, [], ◌∷◌, List, ap, map, replicate, sym, subst}
use Rattle.std.proofs.lemmas.Result.{IfOk-weaker}
use Rattle.tv_model.specs.declared.formula.PredId.{PredId}
use Rattle.tv_model.specs.Program.{program_of, action_of}
use Rattle.tv_structure_form.specs.StructureForm.{StructureForm}
use Rattle.tv_eval.specs.AssignmentForm.{assignment_of}
use Rattle.tv_update.specs.New.{CanFinish, AreFinished}
use Rattle.tv_update.specs.Update.{IsGivenOf}
use Rattle.tv_update.proofs.Finishes.{can_finish, can_finish_unmarked}
use Rattle.tv_update.proofs.Given.{unmarked_is_given}
use Rattle.tv_update.proofs.stage.finish_whole.Goals as goal

pub whole_structure-requires-clause-can : goal.whole_structure-requires-clause-can
whole_structure-requires-clause-can c =
    subst (λ order. CanFinish c.args.applied.now.program.now order c.unmark.new.self c.args.scratch.now)
    (sym c.as_slice.ensures)
    (can_finish_unmarked c.args.applied.now.program.now c.args.plan.now c.args.updated c.unmark.new.self c.args.scratch.now
    c.unmark.ensures.value
    (can_finish c.args.applied.now.program.now c.args.applied.now.action.now c.args.applied.now.mode
    c.args.applied.now.picks.now
    c.args.middle.now c.args.updated c.args.scratch.now
    (assignment_of c.args.applied.now.picks.now) c.args.plan.now
    c.requires.can c.requires.made c.requires.plan))

pub whole_structure-requires-clause-unmarked : goal.whole_structure-requires-clause-unmarked
whole_structure-requires-clause-unmarked c = ap (λ (s : StructureForm). s.fresh) c.unmark.ensures.value

pub returns-clause-given : goal.returns-clause-given
returns-clause-given c =
    let Finished : List PredId → List StructureForm → Type 0
    = λ order ts. AreFinished (program_of c.args.applied.now.program.now) (map (λ p. p.0) order) c.unmark.new.self
    (replicate c.unmark.new.self.size true ∷ []) ts
    in IfOk-weaker c.whole_structure.result (Finished c.as_slice.result.now)
    (IsGivenOf (program_of c.args.applied.now.program.now) c.args.applied.now.mode
    (action_of c.args.applied.now.action.now)
    (assignment_of c.args.applied.now.picks.now) c.args.middle.now)
    (λ ts done. unmarked_is_given (program_of c.args.applied.now.program.now) c.args.applied.now.mode
    (action_of c.args.applied.now.action.now)
    (assignment_of c.args.applied.now.picks.now) c.args.middle.now c.args.updated
    c.unmark.new.self (map (λ p. p.0) c.args.plan.now) ts
    c.size.ensures.kept c.requires.made c.requires.plan c.requires.whole c.unmark.ensures.value
    (subst (λ order. Finished order ts) c.as_slice.ensures done))
    c.whole_structure.ensures.structures
