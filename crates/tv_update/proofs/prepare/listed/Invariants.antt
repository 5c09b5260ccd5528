use Rattle.std.proofs.Common.{◌≡◌, take}
use Rattle.tv_update.proofs.prepare.listed.Given as goal

abbrev pub invariant-loop-u : goal.invariant-loop-u
invariant-loop-u l = l.values.items ≡ take l.u l.row
