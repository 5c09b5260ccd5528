use Rattle.std.proofs.Common.{◌≡◌, ◌++◌, drop, map}
use Rattle.std.specs.List.{flat_map}
use Rattle.tv_model.specs.Program.{message_of, pred_of}
use Rattle.tv_compiled.specs.Parts.{message_text}
use Rattle.tv_compiled.proofs.parts.append_messages.Given as goal

-- what is written and what is left are all of it
abbrev pub invariant-loop-message : goal.invariant-loop-message
invariant-loop-message l = l.out.items ++ flat_map (message_text (map pred_of l.preds)) (map message_of (drop l.message-index l.messages))
    ≡ l.initial.out.items ++ flat_map (message_text (map pred_of l.preds)) (map message_of (l.messages))
