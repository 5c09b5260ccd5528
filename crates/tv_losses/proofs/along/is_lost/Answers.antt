use Rattle.std.proofs.Common.{◌↔◌, ◌∙◌, subst, IsTrue}
use Rattle.std.proofs.lemmas.Option.{slice_get_within}
use Rattle.std.proofs.lemmas.Result.{err_from_is_err_and}
use Rattle.tv_lemmas.proofs.Bools.{isnt_so}
use Rattle.tv_model.specs.Program.{action_of, program_of}
use Rattle.tv_step_laws.specs.Budgets.{IsStepCause}
use Rattle.tv_step_laws.specs.Transfer.{AreResults}
use Rattle.tv_step.specs.AtHand.{IsFocusFault}
use Rattle.tv_step.specs.EngineForm.{EngineForm}
use Rattle.tv_losses.specs.Enabled.{IsEnabledAtHand}
use Rattle.tv_work.proofs.Causes.{step-cause}
use Rattle.tv_losses.specs.Losses.{IsLost}
use Rattle.tv_losses.specs.Tasks.{reached_in}
use Rattle.tv_losses.proofs.Losing.{are-none, are-some, at-source, focus-step, listed-over}
use Rattle.tv_losses.proofs.Losing.{lost-enabled, not-lost, same-answer}
use Rattle.tv_losses.proofs.along.is_lost.Goals as goal

pub step-requires-clause-edge : goal.step-requires-clause-edge
step-requires-clause-edge c =
    rw c.requires.ready.made
    (slice_get_within c.args.x.now.program.now.edges c.args.number c.args.edge c.requires.edge)

pub step-requires-clause-over : goal.step-requires-clause-over
step-requires-clause-over c =
    rw c.requires.ready.made
    (listed-over c.args.x.now c.args.stepper.now c.requires.ready c.args.number c.args.edge c.requires.edge
    c.args.s.now c.requires.listed)

pub returns-in_err-out-clause-cause : goal.returns-in_err-out-clause-cause
returns-in_err-out-clause-cause c =
    let x = c.args.x.now
    in let s = c.args.s.now
    in let fault = c.in_err-out.field-0.0
    in let p = err_from_is_err_and c.from_residual.result c.from_residual.ensures.1
    in rw (p.1, p.2)
    (λ max. step-cause (program_of x.program.now) max c.args.number (reached_in x)
    (record { node = c.args.edge.from; structure = s })
    (at-source x c.args.stepper.now c.requires.ready c.args.number c.args.edge c.requires.edge s c.requires.listed)
    fault
    (subst (λ (e : EngineForm). IsStepCause (program_of e.program) c.args.number s fault) c.requires.ready.made
    c.in_err-out.ensures.step.cause))

pub returns-then-not-is_empty-clause-lost : goal.returns-then-not-is_empty-clause-lost
returns-then-not-is_empty-clause-lost c =
    let x = c.args.x.now
    in let s = c.args.s.now
    in let rs = c.in_ok-out.out.results
    in isnt_so (IsLost (program_of x.program.now) x.mode c.args.number s)
    (not-lost (program_of x.program.now) c.requires.ready.valid x.mode c.args.number s rs
    (subst (λ (e : EngineForm). AreResults (program_of e.program) e.mode c.args.number s rs) c.requires.ready.made
    c.in_ok-out.ensures.step.results)
    (are-some rs c.as_slice.result.now c.is_empty.result c.as_slice.ensures c.is_empty.ensures
    c.if-not-is_empty.true))

pub action_at-action-requires-clause-number : goal.action_at-action-requires-clause-number
action_at-action-requires-clause-number c =
    slice_get_within c.args.x.now.program.now.edges c.args.number c.args.edge c.requires.edge

pub is_enabled_at_hand-requires-clause-valid : goal.is_enabled_at_hand-requires-clause-valid
is_enabled_at_hand-requires-clause-valid c = rw (c.in_ok-out.ensures.same, c.requires.ready.made) c.requires.ready.valid

pub is_enabled_at_hand-requires-clause-edge : goal.is_enabled_at_hand-requires-clause-edge
is_enabled_at_hand-requires-clause-edge c =
    rw (c.in_ok-out.ensures.same, c.requires.ready.made)
    (slice_get_within c.args.x.now.program.now.edges c.args.number c.args.edge c.requires.edge)

pub is_enabled_at_hand-requires-clause-action : goal.is_enabled_at_hand-requires-clause-action
is_enabled_at_hand-requires-clause-action c = rw (c.in_ok-out.ensures.same, c.requires.ready.made) c.action_at-action.ensures

pub is_enabled_at_hand-requires-clause-over : goal.is_enabled_at_hand-requires-clause-over
is_enabled_at_hand-requires-clause-over c =
    rw (c.in_ok-out.ensures.same, c.requires.ready.made)
    (listed-over c.args.x.now c.args.stepper.now c.requires.ready c.args.number c.args.edge c.requires.edge
    c.args.s.now c.requires.listed)

pub returns-in_err-is_enabled_at_hand-clause-cause : goal.returns-in_err-is_enabled_at_hand-clause-cause
returns-in_err-is_enabled_at_hand-clause-cause c =
    let x = c.args.x.now
    in let s = c.args.s.now
    in let fault = c.in_err-is_enabled_at_hand.field-0.0
    in let action = action_of c.action_at-action.result.now
    in let p = err_from_is_err_and c.from_residual-in_err-is_enabled_at_hand.result
    c.from_residual-in_err-is_enabled_at_hand.ensures.1
    in rw (p.1, p.2)
    (λ max. step-cause (program_of x.program.now) max c.args.number (reached_in x)
    (record { node = c.args.edge.from; structure = s })
    (at-source x c.args.stepper.now c.requires.ready c.args.number c.args.edge c.requires.edge s c.requires.listed)
    fault
    (focus-step (program_of x.program.now) c.args.number action s fault c.action_at-action.ensures
    (subst (λ (e : EngineForm). IsFocusFault (program_of e.program) action s fault)
    (c.in_ok-out.ensures.same ∙ c.requires.ready.made)
    c.in_err-is_enabled_at_hand.ensures.cause)))

pub returns-clause-lost : goal.returns-clause-lost
returns-clause-lost c =
    let x = c.args.x.now
    in let s = c.args.s.now
    in let rs = c.in_ok-out.out.results
    in let action = action_of c.action_at-action.result.now
    in let enabled = c.in_ok-is_enabled_at_hand.field-0
    in same-answer (IsEnabledAtHand (program_of x.program.now) action s) (IsLost (program_of x.program.now) x.mode c.args.number s) enabled
    (subst (λ (e : EngineForm). IsTrue enabled ↔ IsEnabledAtHand (program_of e.program) action s)
    (c.in_ok-out.ensures.same ∙ c.requires.ready.made)
    c.in_ok-is_enabled_at_hand.ensures.value)
    (lost-enabled (program_of x.program.now) x.mode c.args.number s action rs
    (subst (λ (e : EngineForm). AreResults (program_of e.program) e.mode c.args.number s rs) c.requires.ready.made
    c.in_ok-out.ensures.step.results)
    (are-none rs c.as_slice.result.now c.is_empty.result c.as_slice.ensures c.is_empty.ensures
    c.if-not-is_empty.false)
    c.action_at-action.ensures)
