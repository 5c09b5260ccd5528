use Rattle.std.proofs.Common.{◌∙◌, List, [], ◌∷◌, ◌++◌, map, ℕ, sym, ap, append_assoc}
use Rattle.std.specs.List.{range_with_len}
use Rattle.tv_lemmas.proofs.Lists.{map_range_more}
use Rattle.tv_heap_steps.proofs.chosen.push_each.Goals as goal

pub loop-u-preserved : goal.loop-u-preserved
loop-u-preserved c =
    let put : ℕ → List ℕ = λ u. u ∷ c.args.list.now
    in let before : List (List ℕ) = map put (range_with_len 0 c.loop-u.u)
    in c.in_ok-push.ensures.items
    ∙ ap (λ (xs : List (List ℕ)). xs ++ c.in_ok-longer.longer ∷ []) c.loop-u.invariant
    ∙ append_assoc c.args.lists.now.items before (c.in_ok-longer.longer ∷ [])
    ∙ ap (λ (xs : List (List ℕ)). c.args.lists.now.items ++ xs)
    (ap (λ (x : List ℕ). before ++ x ∷ []) c.in_ok-longer.ensures ∙ sym (map_range_more put c.loop-u.u))
