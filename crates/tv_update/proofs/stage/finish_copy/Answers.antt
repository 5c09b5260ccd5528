use Rattle.std.proofs.Common.{true, [], ◌∷◌, List, ap, map, replicate, sym, subst}
use Rattle.std.proofs.lemmas.Result.{on_ok_weaker}
use Rattle.tv_model.specs.declared.formula.PredId.{PredId}
use Rattle.tv_model.specs.Program.{program_of, action_of}
use Rattle.tv_structure_form.specs.StructureForm.{StructureForm}
use Rattle.tv_eval.specs.AssignmentForm.{assignment_of}
use Rattle.tv_update.specs.New.{CanFinish, AreFinished}
use Rattle.tv_update.proofs.Finishes.{can_finish, can_finish_unmarked}
use Rattle.tv_update.proofs.Given.{unmarked_is_given}
use Rattle.tv_update.proofs.stage.finish_copy.Goals as goal

pub finish_whole-requires-clause-can : goal.finish_whole-requires-clause-can
finish_whole-requires-clause-can c =
    subst (λ order. CanFinish c.args.applied.now.program.now order c.unmark.new.self c.update_copy.new.scratch)
    (sym c.as_slice.ensures)
    (can_finish_unmarked c.args.applied.now.program.now c.args.plan.now c.update_copy.new.t c.unmark.new.self
    c.update_copy.new.scratch c.unmark.ensures.value
    (can_finish c.args.applied.now.program.now c.args.applied.now.action.now c.args.applied.now.mode
    c.args.applied.now.picks.now
    c.args.middle.now c.update_copy.new.t c.update_copy.new.scratch
    (assignment_of c.args.applied.now.picks.now) c.args.plan.now
    (rw c.in_ok-update_copy.ensures.scratch c.requires.can) c.in_ok-update_copy.ensures.made c.requires.plan))

pub finish_whole-requires-clause-unmarked : goal.finish_whole-requires-clause-unmarked
finish_whole-requires-clause-unmarked c = ap (λ (s : StructureForm). s.fresh) c.unmark.ensures.value

pub returns-clause-given : goal.returns-clause-given
returns-clause-given c =
    let Finished : List PredId → List StructureForm → Type 0
    = λ order ts. AreFinished (program_of c.args.applied.now.program.now) (map (λ p. p.0) order) c.unmark.new.self
    (replicate c.unmark.new.self.size true ∷ []) ts
    in on_ok_weaker c.finish_whole.result
    (λ done. unmarked_is_given (program_of c.args.applied.now.program.now) c.args.applied.now.mode
    (action_of c.args.applied.now.action.now)
    (assignment_of c.args.applied.now.picks.now) c.args.middle.now c.update_copy.new.t
    c.unmark.new.self (map (λ p. p.0) c.args.plan.now) (c.finish_whole.new.t ∷ [])
    c.size.ensures.kept c.in_ok-update_copy.ensures.made c.requires.plan c.requires.whole c.unmark.ensures.value
    (subst (λ order. Finished order (c.finish_whole.new.t ∷ [])) c.as_slice.ensures done))
    c.finish_whole.ensures.structures
