use Rattle.tv_replay_step.proofs.Copied.{HasRowsOf}
use Rattle.tv_replay_step.proofs.free.copy_pairs.Given as goal

abbrev pub invariant-loop-u : goal.invariant-loop-u
invariant-loop-u l = HasRowsOf l.values l.initial.t l.t l.p.0 l.u
