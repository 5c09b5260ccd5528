use Rattle.std.proofs.Common.{length, ◌-◌}
use Rattle.tv_lex.proofs.Cut.{CutBefore}
use Rattle.tv_lex.proofs.reader.lex.Given as goal

abbrev pub invariant-loop-at : goal.invariant-loop-at
invariant-loop-at l = CutBefore l.bytes l.at l.list.items

abbrev pub decreases-loop-at : goal.decreases-loop-at
decreases-loop-at l = length l.bytes - l.at
