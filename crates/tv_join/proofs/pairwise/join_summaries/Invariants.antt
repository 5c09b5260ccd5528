use Rattle.tv_join.proofs.Joining.{HasJoinedFlags}
use Rattle.tv_join.proofs.pairwise.join_summaries.Given as goal

abbrev pub invariant-loop-u : goal.invariant-loop-u
invariant-loop-u l = HasJoinedFlags l.u l.initial.s l.t l.s
