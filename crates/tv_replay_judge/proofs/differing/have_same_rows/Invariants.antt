use Rattle.tv_replay_judge.proofs.Compared.{SameRows}
use Rattle.tv_replay_judge.proofs.differing.have_same_rows.Given as goal

abbrev pub invariant-loop-u : goal.invariant-loop-u
invariant-loop-u l = SameRows l.s l.t l.p.0 l.u
