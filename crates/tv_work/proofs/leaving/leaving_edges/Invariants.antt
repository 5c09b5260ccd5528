use Rattle.std.proofs.Common.{length}
use Rattle.tv_work.proofs.Leaves.{AreLeavingTo}
use Rattle.tv_work.proofs.leaving.leaving_edges.Given as goal

abbrev pub invariant-loop-number : goal.invariant-loop-number
invariant-loop-number l = AreLeavingTo l.program.edges (length l.program.nodes) l.number l.lists.items
