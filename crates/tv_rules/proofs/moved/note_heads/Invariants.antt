use Rattle.std.proofs.Common.{map}
use Rattle.tv_coerce_moves.specs.Occurrences.{KeepsMembers}
use Rattle.tv_rules.specs.EntryForms.{entry_of}
use Rattle.tv_rules.specs.Moved.{AreHeadsNoted}
use Rattle.tv_rules.proofs.moved.note_heads.Given as goal

abbrev pub invariant-loop-entry : goal.invariant-loop-entry
invariant-loop-entry l =
    KeepsMembers l.initial.occurrences l.occurrences × AreHeadsNoted l.entry-index (map entry_of l.entries) l.occurrences
