use Rattle.std.proofs.Common.{◌≡◌, length, map, take}
use Rattle.tv_model.specs.Program.{message_of}
use Rattle.tv_compiled.proofs.same.are_same_messages.Given as goal

-- both begin alike
abbrev pub invariant-loop-i : goal.invariant-loop-i
invariant-loop-i l = (length l.a ≡ length l.b) × (map message_of (take l.i l.a) ≡ map message_of (take l.i l.b))
