use Rattle.std.proofs.Common.{map}
use Rattle.tv_model.specs.Program.{rule_of}
use Rattle.tv_coerce_moves.specs.Occurrences.{KeepsMembers}
use Rattle.tv_rules.specs.Moved.{AreRulesNoted}
use Rattle.tv_rules.proofs.moved.note_rules.Given as goal

abbrev pub invariant-loop-number : goal.invariant-loop-number
invariant-loop-number l =
    KeepsMembers l.initial.occurrences l.occurrences × AreRulesNoted l.number (map rule_of l.rules) l.occurrences
