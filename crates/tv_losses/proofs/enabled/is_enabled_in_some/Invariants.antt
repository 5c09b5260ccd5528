use Rattle.std.proofs.Common.{◌≡◌, take, All}
use Rattle.tv_model.specs.Program.{action_of}
use Rattle.tv_losses.specs.Enabled.{IsEnabled}
use Rattle.tv_losses.proofs.enabled.is_enabled_in_some.Given as goal

abbrev pub invariant-loop-from : goal.invariant-loop-from
invariant-loop-from l = record {
  none : All (λ t. ¬ IsEnabled (action_of l.action) t) (take l.from-index l.structures);
  same : l.stepper ≡ l.fn.stepper;
}
