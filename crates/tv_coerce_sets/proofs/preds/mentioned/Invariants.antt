use Rattle.tv_coerce_sets.specs.Listed.{AreListed}
use Rattle.tv_coerce_sets.proofs.preds.mentioned.Given as goal

abbrev pub invariant-loop-number : goal.invariant-loop-number
invariant-loop-number l = AreListed l.number l.formulas l.preds.items
