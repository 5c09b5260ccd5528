use Rattle.tv_listing.specs.ListingForm.{at_node}
use Rattle.tv_cover.specs.Indexed.{AreIndexedTo, glances_of}
use Rattle.tv_cover.proofs.targets.all_noted.Given as goal

abbrev pub invariant-loop-place : goal.invariant-loop-place
invariant-loop-place l = AreIndexedTo l.noted (glances_of (at_node l.listing l.node)) l.place
