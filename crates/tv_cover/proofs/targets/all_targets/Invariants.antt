use Rattle.std.proofs.Common.{◌≡◌, take}
use Rattle.tv_cover.proofs.targets.all_targets.Given as goal

abbrev pub invariant-loop-node : goal.invariant-loop-node
invariant-loop-node l = l.targets.items ≡ take l.node l.listing
