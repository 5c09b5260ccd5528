use Rattle.std.proofs.Common.{length}
use Rattle.tv_join.proofs.Nodes.{AreFilled}
use Rattle.tv_join.proofs.joins.Joins.into_listing.Given as goal

abbrev pub invariant-loop-node : goal.invariant-loop-node
invariant-loop-node l = AreFilled l.yielded l.number (length l.fn.self.nodes) l.listing
