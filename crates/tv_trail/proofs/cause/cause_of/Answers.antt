use Rattle.std.proofs.Common.{subst, sym}
use Rattle.std.specs.Prelude.{All, Err, Ok}
use Rattle.std.proofs.lemmas.Result.{err_from_is_err_and}
use Rattle.tv_model.specs.declared.program.Program.{Program}
use Rattle.tv_model.specs.Program.{action_of, message_of, program_of}
use Rattle.tv_step.specs.AtHand.{FindsAtHand}
use Rattle.tv_step_laws.specs.Budgets.{IsStepCause}
use Rattle.tv_step_laws.specs.Shaped.{IsShaped}
use Rattle.tv_step_laws.specs.Transfer.{AreAtHand, focus_places}
use Rattle.tv_structure_form.specs.StructureForm.{IsOver}
use Rattle.tv_trail.specs.Causes.{IsConditionValue}
use Rattle.tv_trail.specs.Reasons.{last_of}
use Rattle.tv_trail.proofs.Causing.{among-over, cause-none, cause-some, focus-cause, is-message, message-low}
use Rattle.tv_trail.proofs.Causing.{message-there}
use Rattle.tv_trail.proofs.cause.cause_of.Goals as goal

pub at_hand-requires-clause-edge : goal.at_hand-requires-clause-edge
at_hand-requires-clause-edge c = rw c.requires.program c.requires.edge

pub at_hand-requires-clause-over : goal.at_hand-requires-clause-over
at_hand-requires-clause-over c =
    rw c.requires.program (subst (IsOver c.args.program.now.vocab) (sym c.last.ensures) c.requires.over)

pub returns-in_err-at_hand-clause-cause : goal.returns-in_err-at_hand-clause-cause
returns-in_err-at_hand-clause-cause c =
    let p = program_of c.args.program.now in
    let action = action_of c.action_at-action.result.now in
    let fault = c.in_err-at_hand.field-0.0 in
    let q = err_from_is_err_and c.from_residual.result c.from_residual.ensures.1 in
    rw (q.1, q.2)
    (subst (λ s. IsStepCause p c.args.edge s fault) c.last.ensures
    (focus-cause p c.args.edge action c.action_at-action.ensures c.last.result.now fault
    ((subst (λ (program : Program). FindsAtHand (program_of program) c.args.edge c.last.result.now
    (Err fault)) c.requires.program c.in_err-at_hand.ensures.at_hand).cause action c.action_at-action.ensures)))

pub cause_among-requires-clause-message : goal.cause_among-requires-clause-message
cause_among-requires-clause-message c =
    let p = program_of c.args.program.now in
    rw (c.in_ok-at_hand.ensures.same, c.requires.program)
    (is-message p c.requires.valid c.args.edge c.args.number (action_of c.action_at-action.result.now)
    c.action_at-action.ensures (message_of c.in-Some.message.now) c.in-Some.ensures.some)

pub cause_among-requires-clause-room : goal.cause_among-requires-clause-room
cause_among-requires-clause-room c =
    let p = program_of c.args.program.now in
    rw (c.in_ok-at_hand.ensures.same, c.requires.program)
    (message-low p c.requires.valid c.args.edge c.args.number (action_of c.action_at-action.result.now)
    c.action_at-action.ensures (message_of c.in-Some.message.now) c.in-Some.ensures.some)

pub cause_among-requires-clause-shaped : goal.cause_among-requires-clause-shaped
cause_among-requires-clause-shaped c = rw c.in_ok-at_hand.ensures.same c.in_ok-at_hand.ensures.at_hand.shaped

pub returns-in_default-clause-none : goal.returns-in_default-clause-none
returns-in_default-clause-none c =
    let p = program_of c.args.program.now in
    let action = action_of c.action_at-action.result.now in
    message-there p c.requires.valid c.args.edge c.args.number action c.action_at-action.ensures
    c.args.found.now.value (last_of c.args.found.now.trail) c.requires.told c.in_ok-at_hand.at_hand
    (subst (λ s. AreAtHand p (focus_places action.focus) s c.in_ok-at_hand.at_hand) c.last.ensures
    ((subst (λ (program : Program). FindsAtHand (program_of program) c.args.edge c.last.result.now
    (Ok c.in_ok-at_hand.at_hand)) c.requires.program c.in_ok-at_hand.ensures.at_hand).are action
    c.action_at-action.ensures))
    c.in_default.ensures.none

pub returns-clause-some : goal.returns-clause-some
returns-clause-some c =
    let p = program_of c.args.program.now in
    let action = action_of c.action_at-action.result.now in
    let its = c.action_at-action.ensures in
    let ts = c.in_ok-at_hand.at_hand in
    cause-some p c.requires.valid c.args.edge c.args.number action its c.args.found.now.value
    (last_of c.args.found.now.trail) c.requires.told ts
    (subst (λ s. AreAtHand p (focus_places action.focus) s ts) c.last.ensures
    ((subst (λ (program : Program). FindsAtHand (program_of program) c.args.edge c.last.result.now (Ok ts))
    c.requires.program c.in_ok-at_hand.ensures.at_hand).are action its))
    (message_of c.in-Some.message.now) c.in-Some.ensures.some c.cause_among.result c.cause_among.ensures.some

pub returns-clause-none : goal.returns-clause-none
returns-clause-none c =
    let p = program_of c.args.program.now in
    let action = action_of c.action_at-action.result.now in
    let its = c.action_at-action.ensures in
    let ts = c.in_ok-at_hand.at_hand in
    cause-none p c.requires.valid c.args.edge c.args.number action its c.args.found.now.value
    (last_of c.args.found.now.trail) c.requires.told ts
    (subst (λ s. AreAtHand p (focus_places action.focus) s ts) c.last.ensures
    ((subst (λ (program : Program). FindsAtHand (program_of program) c.args.edge c.last.result.now (Ok ts))
    c.requires.program c.in_ok-at_hand.ensures.at_hand).are action its))
    (message_of c.in-Some.message.now) c.in-Some.ensures.some c.requires.some c.cause_among.result
    c.cause_among.ensures.none

pub returns-clause-over : goal.returns-clause-over
returns-clause-over c =
    let ts = c.in_ok-at_hand.at_hand in
    among-over c.args.program.now
    (λ t. IsConditionValue (message_of c.in-Some.message.now) t c.args.found.now.value) ts
    (subst (λ (program : Program). All (IsShaped (program_of program)) ts) c.requires.program
    c.in_ok-at_hand.ensures.at_hand.shaped) c.cause_among.result c.cause_among.ensures.some
