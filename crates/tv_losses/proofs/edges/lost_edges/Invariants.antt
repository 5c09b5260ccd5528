use Rattle.std.proofs.Common.{◌≡◌}
use Rattle.tv_model.specs.Program.{program_of}
use Rattle.tv_losses.proofs.Telling.{AreTold}
use Rattle.tv_losses.proofs.edges.lost_edges.Given as goal

abbrev pub invariant-loop-number : goal.invariant-loop-number
invariant-loop-number l = record {
  told : AreTold (program_of l.x.program.now) l.x.mode l.x.listing.now l.number l.losses;
  same : l.stepper ≡ l.initial.stepper;
}
