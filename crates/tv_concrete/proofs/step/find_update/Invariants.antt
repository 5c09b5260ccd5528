-- None of the updates so far is of the predicate.
use Rattle.tv_concrete.proofs.StepLemmas.{NoneOf}
use Rattle.tv_concrete.proofs.step.find_update.Given as goal

abbrev pub invariant-loop-update : goal.invariant-loop-update
invariant-loop-update l = NoneOf l.q l.updates l.update-index
