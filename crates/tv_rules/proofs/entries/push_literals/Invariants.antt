use Rattle.std.proofs.Common.{◌≡◌, ◌++◌, map, drop}
use Rattle.tv_rules.specs.EntryForms.{entry_of, forms_of, literal_entries}
use Rattle.tv_rules.proofs.entries.push_literals.Given as goal

abbrev pub invariant-loop-place : goal.invariant-loop-place
invariant-loop-place l =
    map entry_of l.entries ++ literal_entries l.base l.place (forms_of (drop l.place l.list))
    ≡ map entry_of l.initial.entries ++ literal_entries l.base 0 (forms_of l.list)
