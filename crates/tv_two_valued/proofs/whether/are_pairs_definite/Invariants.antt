use Rattle.tv_two_valued.proofs.Definite.{RowsDefinite}
use Rattle.tv_two_valued.proofs.whether.are_pairs_definite.Given as goal

abbrev pub invariant-loop-u : goal.invariant-loop-u
invariant-loop-u l = RowsDefinite l.s l.p.0 l.u
