use Rattle.std.proofs.Common.{sym, subst, ◌≤◌}
use Rattle.std.proofs.lemmas.Result.{IfErr-weaker}
use Rattle.tv_model.specs.Program.{program_of, action_of}
use Rattle.tv_structure_form.specs.Halves.{row_halves}
use Rattle.tv_structure_form.specs.StructureForm.{StructureForm}
use Rattle.tv_eval.specs.AssignmentForm.{assignment_of}
use Rattle.tv_update.specs.Update.{IsGivenOf, IsAnswer, IsUpdateCause}
use Rattle.tv_update.specs.Updated.{CanApply, IsPrepareCause, keep_values}
use Rattle.tv_update.proofs.Answered.{answered, refused, can_apply_middle, both_ok}
use Rattle.tv_update.proofs.stage.answer.Goals as goal

pub in_middle-requires-clause-can : goal.in_middle-requires-clause-can
in_middle-requires-clause-can c =
    subst (λ m. CanApply c.args.applied.now.program.now c.args.applied.now.action.now
    c.args.applied.now.picks.now m c.args.scratch.now)
    (sym c.requires.middle)
    (can_apply_middle c.args.applied.now.program.now c.args.applied.now.action.now
    c.args.applied.now.picks.now c.args.s.now
    c.args.scratch.now c.size.ensures.kept c.requires.can c.requires.room)

pub returns-clause-answer : goal.returns-clause-answer
returns-clause-answer c =
    let Few : StructureForm → Type 0 = λ m. row_halves
    (keep_values m (assignment_of c.args.applied.now.picks.now)
    (action_of c.args.applied.now.action.now).retain) ≤ 12 in
    let p = program_of c.args.applied.now.program.now in
    let action = action_of c.args.applied.now.action.now in
    let picks = assignment_of c.args.applied.now.picks.now in
    both_ok c.in_middle.result
    (IsGivenOf p c.args.applied.now.mode action picks c.args.middle.now)
    (Few c.args.middle.now)
    (IsAnswer p c.args.applied.now.mode action c.args.s.now picks)
    (λ ts of few. answered c.args.applied.now.program.now c.args.applied.now.action.now c.args.applied.now.mode
    c.args.applied.now.picks.now c.args.s.now
    c.args.scratch.now c.size.ensures.kept c.requires.can c.requires.room
    (subst Few c.requires.middle few) ts
    (subst (λ m. IsGivenOf p c.args.applied.now.mode action picks m ts) c.requires.middle of))
    c.in_middle.ensures.given c.in_middle.ensures.few

pub returns-clause-cause : goal.returns-clause-cause
returns-clause-cause c =
    let action = action_of c.args.applied.now.action.now in
    let picks = assignment_of c.args.applied.now.picks.now in
    IfErr-weaker c.in_middle.result
    (IsPrepareCause (keep_values c.args.middle.now picks action.retain))
    (IsUpdateCause action c.args.s.now picks)
    (λ fault caused. refused action c.args.s.now picks c.size.ensures.kept c.requires.room fault
    (subst (λ m. IsPrepareCause (keep_values m picks action.retain) fault) c.requires.middle caused))
    c.in_middle.ensures.cause
