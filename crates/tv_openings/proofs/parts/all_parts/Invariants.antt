use Rattle.std.proofs.Common.{◌≤◌}
use Rattle.tv_openings.specs.Parts.{AreAllParts}
use Rattle.tv_openings.proofs.parts.all_parts.Given as goal

abbrev pub invariant-loop-left : goal.invariant-loop-left
invariant-loop-left l = record {
  few : l.left ≤ l.s.size;
  all : AreAllParts l.s l.cells l.left l.lists.items;
}

abbrev pub decreases-loop-left : goal.decreases-loop-left
decreases-loop-left l = l.left
