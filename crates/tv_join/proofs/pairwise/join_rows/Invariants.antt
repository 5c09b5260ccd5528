use Rattle.tv_join.proofs.Joining.{HasJoinedRows}
use Rattle.tv_join.proofs.pairwise.join_rows.Given as goal

abbrev pub invariant-loop-u : goal.invariant-loop-u
invariant-loop-u l = HasJoinedRows l.p.0 l.u l.initial.s l.t l.s
