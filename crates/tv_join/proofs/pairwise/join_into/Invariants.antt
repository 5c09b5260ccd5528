use Rattle.tv_join.proofs.Joining.{HasJoined}
use Rattle.tv_join.proofs.pairwise.join_into.Given as goal

abbrev pub invariant-loop-p : goal.invariant-loop-p
invariant-loop-p l = HasJoined l.p l.fn.s l.t l.s
