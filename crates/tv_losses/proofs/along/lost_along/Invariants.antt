use Rattle.std.proofs.Common.{◌≡◌}
use Rattle.tv_listing.specs.ListingForm.{at_node}
use Rattle.tv_model.specs.Program.{program_of}
use Rattle.tv_losses.specs.Losses.{IsLostAt}
use Rattle.tv_losses.proofs.Exactly.{AreBelow}
use Rattle.tv_losses.proofs.along.lost_along.Given as goal

abbrev pub invariant-loop-place : goal.invariant-loop-place
invariant-loop-place l = record {
  are : AreBelow l.place
      (IsLostAt (program_of l.x.program.now) l.x.mode l.number (at_node l.x.listing.now l.edge.from)) l.places;
  same : l.stepper ≡ l.fn.stepper;
}
