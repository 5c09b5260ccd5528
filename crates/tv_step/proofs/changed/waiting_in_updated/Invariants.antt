use Rattle.std.proofs.Common.{map, take}
use Rattle.tv_rules.specs.EntryForms.{rules_of}
use Rattle.tv_coerce_sets.specs.Unmet.{WaitsAmong}
use Rattle.tv_step.proofs.changed.waiting_in_updated.Given as goal

abbrev pub invariant-loop-update : goal.invariant-loop-update
invariant-loop-update l =
    WaitsAmong (map (λ w. w.pred.0) (take l.update-index l.updates)) (rules_of l.x.closed.now) l.from l.s l.found
