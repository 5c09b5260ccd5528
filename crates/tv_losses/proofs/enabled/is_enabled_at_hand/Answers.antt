use Rattle.std.proofs.Common.{◌↔◌, All, IsTrue, subst, sym}
use Rattle.std.specs.Prelude.{Any}
use Rattle.std.proofs.lemmas.Result.{err_from_is_err_and}
use Rattle.tv_model.specs.Program.{action_of, program_of}
use Rattle.tv_model.proofs.Lists.{slice_get-contains}
use Rattle.tv_step_laws.specs.Shaped.{IsShaped}
use Rattle.tv_losses.specs.Enabled.{IsEnabled, IsEnabledAtHand}
use Rattle.tv_losses.proofs.Searching.{enabled-at_hand, same-answer}
use Rattle.tv_losses.proofs.enabled.is_enabled_at_hand.Goals as goal

pub is_enabled_in_some-requires-clause-valid : goal.is_enabled_in_some-requires-clause-valid
is_enabled_in_some-requires-clause-valid c = rw c.in_ok-found.ensures.same c.requires.valid

pub is_enabled_in_some-requires-clause-action : goal.is_enabled_in_some-requires-clause-action
is_enabled_in_some-requires-clause-action c =
    let its = c.requires.action
    in rw c.in_ok-found.ensures.same
    (slice_get-contains (program_of c.args.stepper.now.program).actions its.taken.action
    (action_of c.args.action.now) its.its_action)

pub is_enabled_in_some-requires-clause-shaped : goal.is_enabled_in_some-requires-clause-shaped
is_enabled_in_some-requires-clause-shaped c =
    rw c.in_ok-found.ensures.same
    (subst (All (IsShaped (program_of c.args.stepper.now.program))) (sym c.as_slice.ensures)
    c.in_ok-found.ensures.at_hand.shaped)

pub returns-in_err-found-clause-cause : goal.returns-in_err-found-clause-cause
returns-in_err-found-clause-cause c =
    let same = err_from_is_err_and c.from_residual.result c.from_residual.ensures.1
    in rw (same.1, same.2)
    (c.in_err-found.ensures.at_hand.cause (action_of c.args.action.now) c.requires.action)

pub returns-clause-value : goal.returns-clause-value
returns-clause-value c =
    let p = program_of c.args.stepper.now.program
    in let action = action_of c.args.action.now
    in let s = c.args.s.now
    in let found = c.in_ok-found.found
    in let same = enabled-at_hand p action s found
    (c.in_ok-found.ensures.at_hand.are action c.requires.action)
    in same-answer (Any (IsEnabled action) found) (IsEnabledAtHand p action s) c.is_enabled_in_some.result
    (subst (λ ss. IsTrue c.is_enabled_in_some.result ↔ Any (IsEnabled action) ss) c.as_slice.ensures
    c.is_enabled_in_some.ensures.value)
    (same.1, same.0)
