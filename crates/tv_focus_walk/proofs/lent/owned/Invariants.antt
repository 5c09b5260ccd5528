use Rattle.std.proofs.Common.{◌≡◌, take}
use Rattle.tv_focus_walk.proofs.lent.owned.Given as goal

abbrev pub invariant-loop-set : goal.invariant-loop-set
invariant-loop-set l = l.sets.items ≡ take l.set-index l.choice
