use Rattle.std.proofs.Common.{ℕ, ◌∙◌, ◌≡◌, ◌<◌, List, ◌∷◌, get_or, map, ap, arith, []}
use Rattle.std.proofs.lemmas.List.{get_or_default}
use Rattle.tv_kleene.specs.declared.K3.{K3}
use Rattle.tv_kleene.specs.Kleene.{smaller_of}
use Rattle.tv_row.specs.Places.{word_at}
use Rattle.tv_row.proofs.RowOps.{FilledTo, four_filled, capped_hold, capped_row}
use Rattle.tv_row.proofs.row.Row.capped.Goals as goal

made_at : (c : goal.After-capped-4) (p : ℕ) (given d : List K3) → p < 4 → given ≡ map (smaller_of c.args.k) (get_or c.self.inside.words p d)
    → given ≡ map (smaller_of c.args.k) (word_at c.self.inside.words p)
made_at c p given d lt e =
    e ∙ ap (map (smaller_of c.args.k)) (get_or_default c.self.inside.words p d [] (omega (arith, c.self.invariant.as_many)))

filled : (c : goal.After-capped-4)
    → FilledTo (c.capped.result ∷ c.capped-2.result ∷ c.capped-3.result ∷ c.capped-4.result ∷ []) 4
    (λ v. map (smaller_of c.args.k) (word_at c.self.inside.words v))
filled c =
    four_filled c.capped.result c.capped-2.result c.capped-3.result c.capped-4.result
    (λ v. map (smaller_of c.args.k) (word_at c.self.inside.words v))
    (made_at c 0 c.capped.result c.index-self-0.result (omega arith) c.capped.ensures)
    (made_at c 1 c.capped-2.result c.index-self-1.result (omega arith) c.capped-2.ensures)
    (made_at c 2 c.capped-3.result c.index-self-2.result (omega arith) c.capped-3.ensures)
    (made_at c 3 c.capped-4.result c.index-self-3.result (omega arith) c.capped-4.ensures)

pub invariant_of-result : goal.invariant_of-result
invariant_of-result c =
    capped_hold c.self.inside.words _ c.self.inside.size 4 c.args.k c.self.invariant (omega (arith, c.self.invariant.small))
    (omega arith) (filled c)

pub returns : goal.returns
returns c =
    capped_row c.self.inside.words _ c.self.inside.size 4 c.args.k c.self.invariant (omega (arith, c.self.invariant.small))
    (omega arith) (filled c)
    ∙ ap (map (smaller_of c.args.k)) c.self.view_is
