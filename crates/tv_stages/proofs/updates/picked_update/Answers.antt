use Rattle.std.proofs.Common.{All, Contains, sym, subst}
use Rattle.tv_model.specs.Program.{picks_of, program_of}
use Rattle.tv_model.specs.Valid.{IsVariable}
use Rattle.tv_model.proofs.Lists.{slice_get-contains}
use Rattle.tv_step.specs.EngineForm.{EngineForm}
use Rattle.tv_step_laws.proofs.Shapes.{shaped-over}
use Rattle.tv_stages.specs.Tasks.{course_action, task_program}
use Rattle.tv_stages.proofs.Updating.{picked-in_range}
use Rattle.tv_stages.proofs.updates.picked_update.Goals as goal

pub assigned-picks-requires-clause-vars : goal.assigned-picks-requires-clause-vars
assigned-picks-requires-clause-vars c =
    let p = task_program c.args.x.now
    in let course = c.args.case.now.course.now
    in let action = course_action course
    in subst (λ vars. All IsVariable (picks_of vars)) (sym c.as_slice.ensures)
    (picked-in_range p c.requires.case.ready.valid action
    (slice_get-contains p.actions course.number action c.requires.case.course.action))

pub precondition-value-requires-clause-action : goal.precondition-value-requires-clause-action
precondition-value-requires-clause-action c =
    let p = task_program c.args.x.now
    in let course = c.args.case.now.course.now
    in let action = course_action course
    in subst (λ (e : EngineForm). Contains (program_of e.program).actions action) (sym c.requires.case.ready.stepper)
    (slice_get-contains p.actions course.number action c.requires.case.course.action)

pub given_each-requires-clause-over : goal.given_each-requires-clause-over
given_each-requires-clause-over c = λ k d lt.
    shaped-over c.args.x.now.program.now _ (c.in_ok-structures.ensures.shaped k d lt)
