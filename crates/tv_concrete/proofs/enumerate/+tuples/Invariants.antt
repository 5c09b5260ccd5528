use Rattle.tv_concrete.proofs.enumerate.+tuples.Given as goal

abbrev pub decreases-tuples : goal.decreases-tuples
decreases-tuples l = l.n
