use Rattle.std.proofs.Common.{◌≡◌, All}
use Rattle.tv_model.specs.Program.{message_of}
use Rattle.tv_trail.specs.Causes.{IsConditionValue}
use Rattle.tv_trail.proofs.cause.cause_among.Given as goal

abbrev pub invariant-loop-t : goal.invariant-loop-t
invariant-loop-t l = record {
  none : All (λ t. ¬ IsConditionValue (message_of l.message) t l.value) l.yielded;
  same : l.stepper ≡ l.fn.stepper;
}
