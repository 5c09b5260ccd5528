use Rattle.std.proofs.Common.{◌≡◌}
use Rattle.tv_model.specs.Program.{program_of}
use Rattle.tv_losses.specs.Losses.{HasNoOpeningAt}
use Rattle.tv_losses.proofs.Exactly.{AreBelow}
use Rattle.tv_losses.proofs.apart.unopened.Given as goal

abbrev pub invariant-loop-place : goal.invariant-loop-place
invariant-loop-place l = record {
  are : AreBelow l.place (HasNoOpeningAt (program_of l.x.program.now) l.x.initial.now) l.places;
  same : l.stepper ≡ l.initial.stepper;
}
