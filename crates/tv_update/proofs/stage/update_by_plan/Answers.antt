use Rattle.std.proofs.Common.{◌≡◌, All, map, subst, sym}
use Rattle.std.proofs.lemmas.Result.{IfOk-weaker}
use Rattle.std.specs.Result.{IfOk, IfErr}
use Rattle.tv_model.specs.Program.{ActionForm, program_of, action_of}
use Rattle.tv_structure_form.specs.StructureForm.{structure_of}
use Rattle.tv_eval.specs.AssignmentForm.{assignment_of}
use Rattle.tv_update_laws.specs.Choices.{AreGiven}
use Rattle.tv_update_laws.specs.Tables.{IsGivenOver}
use Rattle.tv_update.specs.Plan.{IsPlanFor}
use Rattle.tv_update.specs.Update.{action_at, IsWithinLimits, IsUpdateCause, IsSole, KeepsSteps, IsAnswer}
use Rattle.tv_update.proofs.Answered.{action_is, can_apply_at}
use Rattle.tv_update.proofs.stage.update_by_plan.Goals as goal

pub apply-requires-clause-can : goal.apply-requires-clause-can
apply-requires-clause-can c =
    can_apply_at c.args.program.now c.as_slice.result.now c.args.action c.index-as_slice-action.result
    c.args.picks.now c.args.s.now c.args.scratch.now
    c.as_slice.ensures c.requires.action c.index-as_slice-action.is c.requires.valid c.requires.over
    c.size.ensures.kept.table.size
    c.requires.picks c.requires.scratch

-- the action is the one with that number
pub apply-requires-clause-plan : goal.apply-requires-clause-plan
apply-requires-clause-plan c =
    subst (λ (a : ActionForm). IsPlanFor (program_of c.args.program.now) c.args.mode a c.args.plan.now)
    (sym (action_is c.args.program.now c.as_slice.result.now c.args.action c.index-as_slice-action.result
    c.as_slice.ensures c.requires.action
    c.index-as_slice-action.is))
    c.requires.plan

is-action : (c : goal.After-apply)
    → action_of c.index-as_slice-action.result ≡ action_at c.args.program.now c.args.action
is-action c =
    action_is c.args.program.now c.as_slice.result.now c.args.action c.index-as_slice-action.result
    c.as_slice.ensures c.requires.action
    c.index-as_slice-action.is

answer : (c : goal.After-apply) → IfOk c.apply.result (IsAnswer (program_of c.args.program.now) c.args.mode
    (action_at c.args.program.now c.args.action) c.args.s.now (assignment_of c.args.picks.now))
answer c =
    subst (λ (a : ActionForm). IfOk c.apply.result
    (IsAnswer (program_of c.args.program.now) c.args.mode a c.args.s.now
    (assignment_of c.args.picks.now)))
    (is-action c) c.apply.ensures.answer

pub returns-clause-given : goal.returns-clause-given
returns-clause-given c =
    IfOk-weaker c.apply.result
    (IsAnswer (program_of c.args.program.now) c.args.mode
    (action_at c.args.program.now c.args.action) c.args.s.now (assignment_of c.args.picks.now))
    (λ ts. AreGiven (program_of c.args.program.now) c.args.mode (action_at c.args.program.now c.args.action)
    (structure_of c.args.s.now)
    (assignment_of c.args.picks.now) (map structure_of ts)) (λ ts a. a.given) (answer c)

pub returns-clause-over : goal.returns-clause-over
returns-clause-over c =
    IfOk-weaker c.apply.result
    (IsAnswer (program_of c.args.program.now) c.args.mode
    (action_at c.args.program.now c.args.action) c.args.s.now (assignment_of c.args.picks.now))
    (All (IsGivenOver c.args.s.now)) (λ ts a. a.over) (answer c)

pub returns-clause-sole : goal.returns-clause-sole
returns-clause-sole c =
    IfOk-weaker c.apply.result
    (IsAnswer (program_of c.args.program.now) c.args.mode
    (action_at c.args.program.now c.args.action) c.args.s.now (assignment_of c.args.picks.now))
    (IsSole (program_of c.args.program.now) c.args.mode
    (action_at c.args.program.now c.args.action) c.args.s.now (assignment_of c.args.picks.now))
    (λ ts a. a.sole) (answer c)

pub returns-clause-within : goal.returns-clause-within
returns-clause-within c =
    IfOk-weaker c.apply.result
    (IsAnswer (program_of c.args.program.now) c.args.mode
    (action_at c.args.program.now c.args.action) c.args.s.now (assignment_of c.args.picks.now))
    (λ ts. IsWithinLimits (action_at c.args.program.now c.args.action) c.args.s.now
    (assignment_of c.args.picks.now)) (λ ts a. a.within) (answer c)

pub returns-clause-cause : goal.returns-clause-cause
returns-clause-cause c =
    subst (λ (a : ActionForm). IfErr c.apply.result
    (IsUpdateCause a c.args.s.now (assignment_of c.args.picks.now))) (is-action c) c.apply.ensures.cause

pub returns-clause-heaps : goal.returns-clause-heaps
returns-clause-heaps c =
    IfOk-weaker c.apply.result
    (IsAnswer (program_of c.args.program.now) c.args.mode
    (action_at c.args.program.now c.args.action) c.args.s.now (assignment_of c.args.picks.now))
    (KeepsSteps (program_of c.args.program.now) c.args.mode
    (action_at c.args.program.now c.args.action) c.args.s.now (assignment_of c.args.picks.now))
    (λ ts a. a.heaps) (answer c)
