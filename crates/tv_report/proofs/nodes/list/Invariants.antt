use Rattle.std.proofs.Common.{◌≡◌, ◌++◌, set}
use Rattle.tv_listing.specs.ListingForm.{at_node}
use Rattle.tv_report.proofs.nodes.list.Given as goal

abbrev pub invariant-loop-s : goal.invariant-loop-s
invariant-loop-s l = l.listing ≡ set l.initial.listing l.node (at_node l.initial.listing l.node ++ l.yielded)
