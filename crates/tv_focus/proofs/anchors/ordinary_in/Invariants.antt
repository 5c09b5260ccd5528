use Rattle.std.proofs.Common.{◌≡◌, ◌≤◌, ◌-◌, length}
use Rattle.tv_focus.proofs.Lines.{found_before}
use Rattle.tv_focus.proofs.anchors.ordinary_in.Given as goal

abbrev pub invariant-loop-u : goal.invariant-loop-u
invariant-loop-u l = (l.from ≤ length l.row) × (l.found.items ≡ found_before l.s l.row l.from)

abbrev pub decreases-loop-u : goal.decreases-loop-u
decreases-loop-u l = length l.row - l.from
