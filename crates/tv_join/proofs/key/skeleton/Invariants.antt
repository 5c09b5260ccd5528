use Rattle.tv_join.specs.Keyed.{HasCopied}
use Rattle.tv_join.proofs.key.skeleton.Given as goal

abbrev pub invariant-loop-p : goal.invariant-loop-p
invariant-loop-p l = HasCopied l.counted l.s l.p l.bare
