use Rattle.std.proofs.Common.{All, subst, sym}
use Rattle.std.specs.Prelude.{Any}
use Rattle.std.proofs.lemmas.List.{take_all}
use Rattle.std.proofs.lemmas.List.Elements.{All-contains}
use Rattle.tv_lemmas.proofs.Bools.{isnt_so}
use Rattle.tv_model.specs.Program.{action_of, program_of}
use Rattle.tv_step.specs.EngineForm.{EngineForm}
use Rattle.tv_step_laws.specs.Shaped.{IsShaped}
use Rattle.tv_losses.specs.Enabled.{IsEnabled}
use Rattle.tv_losses.proofs.Searching.{all-next, denied, none-any}
use Rattle.tv_losses.proofs.enabled.is_enabled_in_some.Goals as goal

pub is_enabled-requires-clause-valid : goal.is_enabled-requires-clause-valid
is_enabled-requires-clause-valid c = rw c.loop-from.invariant.same c.requires.valid

pub is_enabled-requires-clause-action : goal.is_enabled-requires-clause-action
is_enabled-requires-clause-action c = rw c.loop-from.invariant.same c.requires.action

pub is_enabled-requires-clause-shaped : goal.is_enabled-requires-clause-shaped
is_enabled-requires-clause-shaped c =
    subst (λ (e : EngineForm). IsShaped (program_of e.program) c.from-item.result)
    (sym c.loop-from.invariant.same)
    (All-contains (IsShaped (program_of c.args.stepper.now.program)) c.args.structures.now c.from-item.result
    c.requires.shaped (c.loop-from.from-index, c.loop-from-test.true, sym c.from-item.is))

pub loop-from-preserved : goal.loop-from-preserved
loop-from-preserved c =
    let action = action_of c.args.action.now
    in record {
      none = all-next (λ t. ¬ IsEnabled action t) c.args.structures.now c.loop-from.from-index
          c.from-item.result c.loop-from-test.true c.from-item.is c.loop-from.invariant.none
          (denied (IsEnabled action c.from-item.result) c.is_enabled.result c.is_enabled.ensures.value
          c.if-is_enabled.false);
      same = cc;
    }

pub returns-clause-value : goal.returns-clause-value
returns-clause-value c =
    let action = action_of c.args.action.now
    in isnt_so (Any (IsEnabled action) c.args.structures.now)
    (none-any (IsEnabled action) c.args.structures.now
    (subst (All (λ t. ¬ IsEnabled action t))
    (take_all c.loop-from.from-index c.args.structures.now c.loop-from-test.false) c.loop-from.invariant.none))
