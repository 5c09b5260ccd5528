-- The copies so far.
use Rattle.std.proofs.Common.{◌≡◌, take}
use Rattle.tv_fair.proofs.copy_extents.Given as goal

abbrev pub invariant-loop-extent : goal.invariant-loop-extent
invariant-loop-extent l = l.all ≡ take l.extent-index l.extents
