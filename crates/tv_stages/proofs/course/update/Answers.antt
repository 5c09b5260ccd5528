use Rattle.std.proofs.Common.{◌≡◌, ◌∙◌, true, All, sym, subst, ap}
use Rattle.tv_eval.specs.AssignmentForm.{IsAssigned, assignment_of}
use Rattle.tv_lemmas.proofs.Options.{IfErr-weaker}
use Rattle.tv_update.specs.Plan.{IsPlanFor}
use Rattle.tv_update.specs.Update.{IsUpdateCause, action_at}
use Rattle.tv_update_laws.specs.Picks.{isnt_no}
use Rattle.tv_update_laws.specs.Tables.{IsGivenOver}
use Rattle.tv_step_laws.specs.Shaped.{IsShaped}
use Rattle.tv_step_laws.proofs.Shapes.{shaped-over}
use Rattle.tv_step.specs.Steps.{IsCauseOfPick}
use Rattle.tv_stages.specs.Tasks.{course_action, task_program}
use Rattle.tv_stages.proofs.Telling.{ok-weaker}
use Rattle.tv_stages.proofs.Updating.{answer-gives, given-shaped, half-passes, same-action, update-fails}
use Rattle.tv_stages.proofs.course.update.Goals as goal

pub update_by_plan-requires-clause-plan : goal.update_by_plan-requires-clause-plan
update_by_plan-requires-clause-plan c =
    let course = c.args.case.now.course.now
    in subst (λ action. IsPlanFor (task_program c.args.x.now) c.args.x.now.mode action course.plan)
    (sym (same-action c.args.x.now.program.now course.number (course_action course) c.requires.case.course.action))
    c.requires.case.course.plan

pub update_by_plan-requires-clause-over : goal.update_by_plan-requires-clause-over
update_by_plan-requires-clause-over c =
    shaped-over c.args.x.now.program.now c.args.case.now.from.now c.requires.case.shaped

pub update_by_plan-requires-clause-picks : goal.update_by_plan-requires-clause-picks
update_by_plan-requires-clause-picks c =
    let course = c.args.case.now.course.now
    in subst (λ action. All (IsAssigned c.args.case.now.from.now.size c.args.picks.now) action.picks)
    (sym (same-action c.args.x.now.program.now course.number (course_action course) c.requires.case.course.action))
    c.requires.picks

pub returns-in-Half-clause-gives : goal.returns-in-Half-clause-gives
returns-in-Half-clause-gives c =
    let course = c.args.case.now.course.now
    in let action = course_action course
    in let s = c.args.case.now.from.now
    in let passed : isnt_no c.args.value ≡ true = half-passes c.args.value c.in-Half.is
    in answer-gives c.args.value (task_program c.args.x.now) c.args.x.now.mode
    (action_at c.args.x.now.program.now course.number) action s (assignment_of c.args.picks.now)
    c.update_by_plan.result (same-action c.args.x.now.program.now course.number action c.requires.case.course.action)
    c.requires.case.shaped passed c.update_by_plan.ensures.given c.update_by_plan.ensures.over

pub returns-in-Half-clause-shaped : goal.returns-in-Half-clause-shaped
returns-in-Half-clause-shaped c =
    let p = task_program c.args.x.now
    in let s = c.args.case.now.from.now
    in ok-weaker c.update_by_plan.result (All (IsGivenOver s)) (All (IsShaped p))
    (λ ts over. given-shaped p s ts c.requires.case.shaped over) c.update_by_plan.ensures.over

pub returns-in-Half-clause-cause : goal.returns-in-Half-clause-cause
returns-in-Half-clause-cause c =
    let course = c.args.case.now.course.now
    in let action = course_action course
    in let s = c.args.case.now.from.now
    in let a = assignment_of c.args.picks.now
    in let value : isnt_no c.args.value ≡ true = half-passes c.args.value c.in-Half.is
    in IfErr-weaker c.update_by_plan.result (IsUpdateCause (action_at c.args.x.now.program.now course.number) s a)
    (IsCauseOfPick action s a)
    (λ e cause. update-fails action s a e (sym (ap isnt_no c.requires.value) ∙ value)
    (subst (λ act. IsUpdateCause act s a e)
    (same-action c.args.x.now.program.now course.number action c.requires.case.course.action) cause))
    c.update_by_plan.ensures.cause
