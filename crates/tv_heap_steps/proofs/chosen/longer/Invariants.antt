use Rattle.std.proofs.Common.{◌≡◌, ◌∷◌, map, take, flat_map}
use Rattle.std.specs.List.{range_with_len}
use Rattle.tv_heap_steps.proofs.chosen.longer.Given as goal

abbrev pub invariant-loop-list : goal.invariant-loop-list
invariant-loop-list l =
    l.all.items ≡ flat_map (λ list. map (λ u. u ∷ list) (range_with_len 0 l.size)) (take l.list-index l.lists)
