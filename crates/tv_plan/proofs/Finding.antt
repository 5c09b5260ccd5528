-- The first update of a predicate.
use Rattle.std.proofs.Common.{ℕ, ◌≡◌, ◌≢◌, ◌<◌, ◌≤◌, ◌+◌, ◌∙◌, List, ◌∷◌, length, map, drop, get_or}
use Rattle.std.proofs.Common.{Option, Some, None, ap, sym, eqb, eq-eqb, ne_eqb}
use Rattle.std.proofs.lemmas.Bool.{cond-true, cond-false}
use Rattle.std.proofs.lemmas.List.{drop_all, drop_more}
use Rattle.tv_model.specs.declared.program.Update.{Update}
use Rattle.tv_model.specs.Program.{UpdateForm, update_of}
use Rattle.tv_model.specs.Step.{update_for}

-- the update that is found among those from place i on
abbrev pub update_from : (q : ℕ) → List Update → (i : ℕ) → Option UpdateForm
update_from q updates i = update_for q (map update_of (drop i updates))

module _ (q : ℕ) (updates : List Update) (i : ℕ) (x : Update) (below : i < length updates)
    (is : x ≡ get_or updates i x) where
  rest : drop i updates ≡ x ∷ drop (i + 1) updates
  rest = drop_more updates i x below ∙ ap (λ y. y ∷ drop (i + 1) updates) (sym is)

  pub found_here : x.pred.0 ≡ q → update_from q updates i ≡ Some (update_of x)
  found_here here = ap (λ ws. update_for q (map update_of ws)) rest
      ∙ cond-true (eqb x.pred.0 q) (Some (update_of x)) (update_from q updates (i + 1)) (eq-eqb x.pred.0 q here)

  pub found_behind : x.pred.0 ≢ q → update_from q updates i ≡ update_from q updates (i + 1)
  found_behind other = ap (λ ws. update_for q (map update_of ws)) rest
      ∙ cond-false (eqb x.pred.0 q) (Some (update_of x)) (update_from q updates (i + 1)) (ne_eqb x.pred.0 q other)

pub found_nowhere : (q : ℕ) (updates : List Update) (i : ℕ) → length updates ≤ i
    → update_from q updates i ≡ None
found_nowhere q updates i past = ap (λ ws. update_for q (map update_of ws)) (drop_all i updates past)
