use Rattle.std.proofs.Common.{◌∙◌, All, length, map, ap, sym, subst}
use Rattle.tv_lemmas.proofs.Options.{IfErr-same}
use Rattle.tv_eval.specs.AssignmentForm.{IsAssigned, assignment_of}
use Rattle.tv_update_laws.specs.Choices.{AreGiven}
use Rattle.tv_coerce.specs.RuleSets.{IsStableBut}
use Rattle.tv_rules.specs.EntryForms.{rules_of}
use Rattle.tv_structure_form.specs.StructureForm.{structure_of}
use Rattle.tv_update.specs.Plan.{IsPlanFor}
use Rattle.tv_update.specs.Update.{IsUpdateCause, IsWithinLimits}
use Rattle.tv_step.specs.Job.{case_program, case_action, case_mode, case_structure}
use Rattle.tv_step.specs.Redefined.{AreDefining}
use Rattle.tv_step.specs.Steps.{IsCauseOfPick}
use Rattle.tv_step.specs.Waiting.{WaitsFor}
use Rattle.tv_step.proofs.LeftAlone.{given-met, given-rest, given-within}
use Rattle.tv_step.proofs.Picking.{given-adds, given-shaped, pick-cause, same-action}
use Rattle.tv_step_laws.proofs.Shapes.{shaped-over}
use Rattle.tv_step.proofs.picks.apply_under.Goals as goal

pub update_by_plan-requires-clause-over : goal.update_by_plan-requires-clause-over
update_by_plan-requires-clause-over c =
    shaped-over c.args.c.now.setting.now.program.now c.args.c.now.from.now c.requires.case.shaped

pub update_by_plan-requires-clause-picks : goal.update_by_plan-requires-clause-picks
update_by_plan-requires-clause-picks c =
    subst (λ action. All (IsAssigned c.args.c.now.from.now.size c.args.picks.now) action.picks)
    (sym (same-action c.args.c.now.setting.now.program.now c.args.c.now.job.now.number
    (case_action c.args.c.now)
    c.requires.case.job.action)) c.requires.picks

pub update_by_plan-requires-clause-plan : goal.update_by_plan-requires-clause-plan
update_by_plan-requires-clause-plan c =
    subst (λ action. IsPlanFor (case_program c.args.c.now) (case_mode c.args.c.now) action c.args.c.now.job.now.plan)
    (sym (same-action c.args.c.now.setting.now.program.now c.args.c.now.job.now.number (case_action c.args.c.now)
    c.requires.case.job.action)) c.requires.case.job.plan

pub returns-in_err-given-clause-cause : goal.returns-in_err-given-clause-cause
returns-in_err-given-clause-cause c =
    let action = case_action c.args.c.now
    in let s = case_structure c.args.c.now
    in let a = assignment_of c.args.picks.now
    in let e = c.in_err-given.field-0.0
    in let same = same-action c.args.c.now.setting.now.program.now c.args.c.now.job.now.number action
    c.requires.case.job.action
    in IfErr-same (IsCauseOfPick action s a) c.from_residual.result e c.from_residual.ensures.1
    (pick-cause action s a e c.requires.passed
    (subst (λ act. IsUpdateCause act s a e) same c.in_err-given.ensures.cause))

pub coerce_all-requires-clause-shaped : goal.coerce_all-requires-clause-shaped
coerce_all-requires-clause-shaped c =
    given-shaped (case_program c.args.c.now) (case_structure c.args.c.now) c.in_ok-given.given
    c.requires.case.shaped c.in_ok-given.ensures.over

pub coerce_all-requires-clause-within : goal.coerce_all-requires-clause-within
coerce_all-requires-clause-within c =
    let p = case_program c.args.c.now
    in let action = case_action c.args.c.now
    in let s = case_structure c.args.c.now
    in let a = assignment_of c.args.picks.now
    in let given = c.in_ok-given.given
    in let same = same-action c.args.c.now.setting.now.program.now c.args.c.now.job.now.number action
    c.requires.case.job.action
    in given-within p c.requires.case.ready.valid (case_mode c.args.c.now) action s a given
    c.args.c.now.job.now.plan c.requires.case.job.plan
    (subst (λ act. AreGiven p (case_mode c.args.c.now) act (structure_of s) a (map structure_of given)) same
    c.in_ok-given.ensures.given) c.reach_of.result c.reach_of.ensures

pub coerce_all-requires-clause-rest : goal.coerce_all-requires-clause-rest
coerce_all-requires-clause-rest c =
    let p = case_program c.args.c.now
    in let action = case_action c.args.c.now
    in let s = case_structure c.args.c.now
    in let a = assignment_of c.args.picks.now
    in let given = c.in_ok-given.given
    in let same = same-action c.args.c.now.setting.now.program.now c.args.c.now.job.now.number action
    c.requires.case.job.action
    in subst (λ set. All (IsStableBut (rules_of c.args.c.now.setting.now.closed.now) set) given)
    (sym c.deref-2.ensures)
    (given-rest p c.requires.case.ready.valid (case_mode c.args.c.now) action s a given
    (rules_of c.args.c.now.setting.now.closed.now)
    c.args.c.now.job.now.waiting.value c.requires.case.ready.rules c.requires.case.stable
    (subst (λ act. AreGiven p (case_mode c.args.c.now) act (structure_of s) a (map structure_of given)) same
    c.in_ok-given.ensures.given)
    (subst (λ rules. WaitsFor p action rules c.args.c.now.job.now.waiting.value) (sym c.requires.case.ready.rules)
    c.requires.case.job.waits))

pub coerce_all-requires-clause-count : goal.coerce_all-requires-clause-count
coerce_all-requires-clause-count c =
    ap length c.deref-2.ensures ∙ c.requires.case.job.waits.count ∙ ap length (sym c.requires.case.ready.rules)

pub returns-clause-within : goal.returns-clause-within
returns-clause-within c = λ passed.
    subst (λ action. IsWithinLimits action c.args.c.now.from.now (assignment_of c.args.picks.now))
    (same-action c.args.c.now.setting.now.program.now c.args.c.now.job.now.number
    (case_action c.args.c.now) c.requires.case.job.action)
    c.in_ok-given.ensures.within

pub returns-clause-out : goal.returns-clause-out
returns-clause-out c =
    let p = case_program c.args.c.now
    in let action = case_action c.args.c.now
    in let s = case_structure c.args.c.now
    in let a = assignment_of c.args.picks.now
    in let given = c.in_ok-given.given
    in let same = same-action c.args.c.now.setting.now.program.now c.args.c.now.job.now.number action
    c.requires.case.job.action
    in given-adds p (case_mode c.args.c.now) action s a given c.args.out.now c.coerce_all.new.out
    c.requires.passed
    (subst (λ act. AreGiven p (case_mode c.args.c.now) act (structure_of s) a (map structure_of given)) same
    c.in_ok-given.ensures.given)
    (given-shaped p s given c.requires.case.shaped c.in_ok-given.ensures.over)
    c.in_ok-coerce_all.ensures.out

pub coerce_all-requires-clause-met : goal.coerce_all-requires-clause-met
coerce_all-requires-clause-met c =
    let p = case_program c.args.c.now
    in let action = case_action c.args.c.now
    in let s = case_structure c.args.c.now
    in let a = assignment_of c.args.picks.now
    in let given = c.in_ok-given.given
    in let rules = rules_of c.args.c.now.setting.now.closed.now
    in let same = same-action c.args.c.now.setting.now.program.now c.args.c.now.job.now.number action
    c.requires.case.job.action
    in given-met p c.requires.case.ready.valid (case_mode c.args.c.now) action s a given
    c.args.c.now.job.now.plan c.requires.case.job.plan
    (subst (λ act. AreGiven p (case_mode c.args.c.now) act (structure_of s) a (map structure_of given)) same
    c.in_ok-given.ensures.given) rules (record { preds = c.as_slice.result; defining = c.as_slice-2.result })
    (subst (AreDefining p rules) (sym (c.as_slice-2.ensures ∙ c.deref.ensures))
    (subst (λ rs. AreDefining p rs c.args.c.now.job.now.defining.value) (sym c.requires.case.ready.rules)
    c.requires.case.job.defining)) c.as_slice.ensures
