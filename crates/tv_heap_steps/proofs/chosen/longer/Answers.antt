use Rattle.std.proofs.Common.{ℕ, List, ◌∷◌, ◌++◌, map, take, ap, sym, ◌∙◌}
use Rattle.std.specs.List.{flat_map, range_with_len}
use Rattle.tv_heap_steps.proofs.ChosenLaws.{one_part_more}
use Rattle.tv_heap_steps.proofs.chosen.longer.Goals as goal

pub loop-list-preserved : goal.loop-list-preserved
loop-list-preserved c =
    let each : List ℕ → List (List ℕ) = λ list. map (λ u. u ∷ list) (range_with_len 0 c.args.size)
    in c.in_ok-push_each.ensures
    ∙ ap (λ ys. ys ++ each c.as_slice.result.now) c.loop-list.invariant
    ∙ ap (λ (x : List ℕ). flat_map each (take c.loop-list.list-index c.args.lists.now) ++ each x) c.as_slice.ensures
    ∙ sym (one_part_more each c.args.lists.now c.loop-list.list-index c.list-item.result c.loop-list-test.true
    c.list-item.is)
