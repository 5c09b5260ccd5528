use Rattle.std.proofs.Common.{◌++◌, map, take}
use Rattle.tv_rules.specs.EntryForms.{rules_of}
use Rattle.tv_coerce_sets.specs.Unmet.{WaitsAmong}
use Rattle.tv_step.proofs.changed.waiting_in_some.Given as goal

abbrev pub invariant-loop-p : goal.invariant-loop-p
invariant-loop-p l =
    WaitsAmong (map (λ w. w.pred.0) l.updates ++ map (λ p. p.0) (take l.p-index l.preds)) (rules_of l.x.closed.now)
    l.from l.s l.found
