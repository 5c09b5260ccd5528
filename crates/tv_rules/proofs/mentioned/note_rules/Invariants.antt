use Rattle.std.proofs.Common.{◌≡◌, length, map}
use Rattle.tv_model.specs.Program.{rule_of}
use Rattle.tv_rules.specs.Noting.{AreNotedTo}
use Rattle.tv_rules.proofs.mentioned.note_rules.Given as goal

abbrev pub invariant-loop-number : goal.invariant-loop-number
invariant-loop-number l =
    (length l.lists.items ≡ length l.fn.lists.items) × AreNotedTo l.number (map rule_of l.rules) l.lists.items
