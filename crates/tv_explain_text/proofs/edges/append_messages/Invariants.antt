use Rattle.std.proofs.Common.{◌≡◌, ◌++◌, drop, map}
use Rattle.tv_model.specs.Program.{message_of}
use Rattle.tv_explain_text.specs.Texts.{message_lines}
use Rattle.tv_explain_text.proofs.edges.append_messages.Given as goal

abbrev pub invariant-loop-number : goal.invariant-loop-number
invariant-loop-number l =
    l.out.items ++ message_lines l.number (map message_of (drop l.number l.messages))
    ≡ l.initial.out.items ++ message_lines 0 (map message_of l.messages)
