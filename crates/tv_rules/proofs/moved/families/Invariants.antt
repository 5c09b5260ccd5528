use Rattle.std.proofs.Common.{◌≡◌, ◌≤◌, length, map}
use Rattle.tv_rules.specs.EntryForms.{entry_of}
use Rattle.tv_rules.specs.Moved.{AreFamilies}
use Rattle.tv_rules.proofs.moved.families.Given as goal

abbrev pub invariant-loop-number : goal.invariant-loop-number
invariant-loop-number l =
    (l.number ≤ length l.entries) × (length l.lists.items ≡ l.bases)
    × AreFamilies l.number (map entry_of l.entries) l.lists.items
