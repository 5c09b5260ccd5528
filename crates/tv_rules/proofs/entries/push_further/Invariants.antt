use Rattle.std.proofs.Common.{◌≡◌, ◌++◌, map, drop}
use Rattle.tv_model.specs.Program.{rule_of}
use Rattle.tv_rules.specs.EntryForms.{entry_of, further_entries}
use Rattle.tv_rules.proofs.entries.push_further.Given as goal

abbrev pub invariant-loop-base : goal.invariant-loop-base
invariant-loop-base l =
    map entry_of l.entries ++ further_entries l.base (map rule_of (drop l.base l.bases))
    ≡ map entry_of l.initial.entries ++ further_entries 0 (map rule_of l.bases)
