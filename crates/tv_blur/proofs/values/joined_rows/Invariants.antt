use Rattle.std.proofs.Common.{◌+◌}
use Rattle.tv_blur.proofs.RowLaws.{AreJoined}
use Rattle.tv_blur.proofs.values.joined_rows.Given as goal

abbrev pub invariant-loop-i : goal.invariant-loop-i
invariant-loop-i l = AreJoined l.s l.p.0 l.members (l.i + 1) l.joined
