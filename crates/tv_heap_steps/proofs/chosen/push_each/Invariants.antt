use Rattle.std.proofs.Common.{◌≡◌, ◌∷◌, ◌++◌, map}
use Rattle.std.specs.List.{range_with_len}
use Rattle.tv_heap_steps.proofs.chosen.push_each.Given as goal

abbrev pub invariant-loop-u : goal.invariant-loop-u
invariant-loop-u l = l.lists.items ≡ l.initial.lists.items ++ map (λ u. u ∷ l.list) (range_with_len 0 l.u)
