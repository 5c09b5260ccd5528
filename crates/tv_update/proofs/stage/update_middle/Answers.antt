use Rattle.std.proofs.Common.{◌≡◌, ◌≤◌, length, subst, sym}
use Rattle.std.specs.Prelude.{IfOk, IfErr, OnOk}
use Rattle.tv_model.specs.Program.{ActionForm, program_of, action_of}
use Rattle.tv_structure_form.specs.Halves.{row_halves}
use Rattle.tv_eval.specs.AssignmentForm.{assignment_of}
use Rattle.tv_update.specs.Plan.{IsPlanFor}
use Rattle.tv_update.specs.Update.{action_at, IsGivenOf}
use Rattle.tv_update.specs.Updated.{IsPrepareCause, keep_values}
use Rattle.tv_update.proofs.Answered.{action_is, can_apply_at, both_ok}
use Rattle.tv_update.proofs.Limits.{few_tables}
use Rattle.tv_update.proofs.stage.update_middle.Goals as goal

pub in_middle-requires-clause-can : goal.in_middle-requires-clause-can
in_middle-requires-clause-can c =
    can_apply_at c.args.program.now c.as_slice.result.now c.args.action c.index-as_slice-action.result
    c.args.picks.now c.args.middle.now c.args.scratch.now
    c.as_slice.ensures c.requires.action c.index-as_slice-action.is c.requires.valid c.requires.over
    c.size.ensures.kept.table.size
    c.requires.picks c.requires.scratch

pub in_middle-requires-clause-plan : goal.in_middle-requires-clause-plan
in_middle-requires-clause-plan c =
    subst (λ (a : ActionForm). IsPlanFor (program_of c.args.program.now) c.args.mode a c.in_ok-plan.plan)
    (sym (action_is c.args.program.now c.as_slice.result.now c.args.action c.index-as_slice-action.result
    c.as_slice.ensures c.requires.action
    c.index-as_slice-action.is))
    c.in_ok-plan.ensures

is-action : (c : goal.After-drop-plan-inside)
    → action_of c.index-as_slice-action.result ≡ action_at c.args.program.now c.args.action
is-action c =
    action_is c.args.program.now c.as_slice.result.now c.args.action c.index-as_slice-action.result
    c.as_slice.ensures c.requires.action
    c.index-as_slice-action.is

pub returns-clause-given : goal.returns-clause-given
returns-clause-given c =
    subst (λ (a : ActionForm). IfOk c.in_middle.result
    (IsGivenOf (program_of c.args.program.now) c.args.mode a (assignment_of c.args.picks.now) c.args.middle.now))
    (is-action c) c.in_middle.ensures.given

pub returns-clause-cause : goal.returns-clause-cause
returns-clause-cause c =
    subst (λ (a : ActionForm). IfErr c.in_middle.result
    (IsPrepareCause (keep_values c.args.middle.now (assignment_of c.args.picks.now) a.retain)))
    (is-action c) c.in_middle.ensures.cause

pub returns-clause-within : goal.returns-clause-within
returns-clause-within c =
    subst (λ (a : ActionForm). OnOk c.in_middle.result
    (row_halves (keep_values c.args.middle.now (assignment_of c.args.picks.now) a.retain) ≤ 12))
    (is-action c) c.in_middle.ensures.few

pub returns-clause-few : goal.returns-clause-few
returns-clause-few c =
    let action = action_at c.args.program.now c.args.action in
    both_ok c.in_middle.result
    (IsGivenOf (program_of c.args.program.now) c.args.mode action (assignment_of c.args.picks.now)
    c.args.middle.now)
    (row_halves (keep_values c.args.middle.now (assignment_of c.args.picks.now) action.retain) ≤ 12)
    (λ ts. length ts ≤ 4096)
    (λ ts of few. few_tables (program_of c.args.program.now) c.args.mode action
    (assignment_of c.args.picks.now) c.args.middle.now ts of few)
    (returns-clause-given c) (returns-clause-within c)
