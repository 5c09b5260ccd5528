use Rattle.std.proofs.Common.{◌≡◌, set}
use Rattle.tv_join.proofs.joins.push_all.Given as goal

abbrev pub invariant-loop-s : goal.invariant-loop-s
invariant-loop-s l = l.listing ≡ set l.initial.listing l.node l.yielded
