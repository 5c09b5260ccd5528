use Rattle.std.proofs.Common.{◌≡◌, ◌++◌}
use Rattle.tv_listing.proofs.node.Node.into_structures.Given as goal

abbrev pub invariant-loop-s : goal.invariant-loop-s
invariant-loop-s l = l.structures.items ++ (l.s-iterator ++ l.pushed.items) ≡ l.fn.self
