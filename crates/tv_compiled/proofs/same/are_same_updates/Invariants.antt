use Rattle.std.proofs.Common.{◌≡◌, length, map, take}
use Rattle.tv_model.specs.Program.{update_of}
use Rattle.tv_compiled.proofs.same.are_same_updates.Given as goal

-- both begin alike
abbrev pub invariant-loop-i : goal.invariant-loop-i
invariant-loop-i l = (length l.a ≡ length l.b) × (map update_of (take l.i l.a) ≡ map update_of (take l.i l.b))
