-- Only rules that are met were taken out.
use Rattle.tv_coerce.specs.RuleSets.{HasFewer}
use Rattle.tv_step.specs.Redefined.{IsOfRedefined}
use Rattle.tv_step.proofs.changed.remove_met.Given as goal

abbrev pub invariant-loop-p : goal.invariant-loop-p
invariant-loop-p l = HasFewer (IsOfRedefined l.redefined) l.fn.set l.set
