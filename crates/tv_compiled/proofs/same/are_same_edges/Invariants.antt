use Rattle.std.proofs.Common.{◌≡◌, length, take}
use Rattle.tv_compiled.proofs.same.are_same_edges.Given as goal

-- both begin alike
abbrev pub invariant-loop-i : goal.invariant-loop-i
invariant-loop-i l = (length l.a ≡ length l.b) × (take l.i l.a ≡ take l.i l.b)
