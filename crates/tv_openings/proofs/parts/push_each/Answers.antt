use Rattle.std.proofs.Common.{◌∙◌, ◌+◌, List, [], ◌∷◌, ◌++◌, map, ℕ, sym, ap, append_assoc}
use Rattle.std.specs.List.{range_with_len}
use Rattle.tv_lemmas.proofs.Lists.{map_range_more}
use Rattle.tv_openings.proofs.parts.push_each.Goals as goal

pub loop-n-preserved : goal.loop-n-preserved
loop-n-preserved c =
    let put : ℕ → List ℕ = λ n. (n + 1) ∷ c.args.parts.now
    in let before : List (List ℕ) = map put (range_with_len 0 c.loop-n.n)
    in c.in_ok-push.ensures.items
    ∙ ap (λ (xs : List (List ℕ)). xs ++ c.in_ok-list.list ∷ []) c.loop-n.invariant
    ∙ append_assoc c.args.lists.now.items before (c.in_ok-list.list ∷ [])
    ∙ ap (λ (xs : List (List ℕ)). c.args.lists.now.items ++ xs)
    (ap (λ (x : List ℕ). before ++ x ∷ []) c.in_ok-list.ensures ∙ sym (map_range_more put c.loop-n.n))
