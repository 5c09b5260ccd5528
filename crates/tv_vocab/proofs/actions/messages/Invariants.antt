use Rattle.tv_names.specs.Copies.{symbols_of}
use Rattle.tv_tree.specs.Copies.{part_of}
use Rattle.tv_model.specs.Program.{message_of}
use Rattle.tv_vocab.specs.Actions.{with_part, messages}
use Rattle.std.proofs.Common.{◌≡◌, map}
use Rattle.tv_names.proofs.Loops.{left}
use Rattle.tv_vocab.proofs.actions.messages.Given as goal

-- what the items so far gave, and those that are left, give what all give
abbrev pub invariant-loop-part : goal.invariant-loop-part
invariant-loop-part l = messages (symbols_of l.symbols) (map part_of l.parts) ≡ left (with_part (symbols_of l.symbols)) part_of (map message_of l.done.items) l.part-index l.parts
