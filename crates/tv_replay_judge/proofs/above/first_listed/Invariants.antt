use Rattle.tv_listing.specs.ListingForm.{at_node}
use Rattle.tv_replay_judge.proofs.Places.{NoneAbove}
use Rattle.tv_replay_judge.proofs.above.first_listed.Given as goal

abbrev pub invariant-loop-place : goal.invariant-loop-place
invariant-loop-place l = NoneAbove l.s (at_node l.listing l.node) l.place
