use Rattle.std.proofs.Common.{◌≡◌, take}
use Rattle.tv_step.proofs.focus.copies.Given as goal

abbrev pub invariant-loop-s : goal.invariant-loop-s
invariant-loop-s l = l.out ≡ take l.s-index l.structures
