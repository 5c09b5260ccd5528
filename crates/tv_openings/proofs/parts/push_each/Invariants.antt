use Rattle.std.proofs.Common.{◌≡◌, ◌+◌, ◌∷◌, ◌++◌, map}
use Rattle.std.specs.List.{range_with_len}
use Rattle.tv_openings.proofs.parts.push_each.Given as goal

abbrev pub invariant-loop-n : goal.invariant-loop-n
invariant-loop-n l = l.lists.items ≡ l.initial.lists.items ++ map (λ n. (n + 1) ∷ l.parts) (range_with_len 0 l.n)
