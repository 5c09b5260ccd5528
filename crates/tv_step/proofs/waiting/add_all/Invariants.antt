use Rattle.std.proofs.Common.{take, Contains}
use Rattle.tv_rules.specs.EntryForms.{rules_of}
use Rattle.tv_step.specs.Waiting.{HasRulesOf}
use Rattle.tv_step.proofs.waiting.add_all.Given as goal

abbrev pub invariant-loop-pred : goal.invariant-loop-pred
invariant-loop-pred l =
    HasRulesOf (Contains (take l.pred-index l.preds)) (rules_of l.x.closed.now) l.fn.waiting l.waiting
