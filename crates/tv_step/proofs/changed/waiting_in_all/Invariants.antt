use Rattle.std.specs.List.{range_with_len}
use Rattle.tv_rules.specs.EntryForms.{rules_of}
use Rattle.tv_coerce_sets.specs.Unmet.{WaitsAmong}
use Rattle.tv_step.proofs.changed.waiting_in_all.Given as goal

abbrev pub invariant-loop-number : goal.invariant-loop-number
invariant-loop-number l =
    WaitsAmong (range_with_len 0 l.number) (rules_of l.x.closed.now) l.from l.s l.found
