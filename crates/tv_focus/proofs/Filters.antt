-- Filters over the numbers below a bound.
use Rattle.std.proofs.Common.{ℕ, ◌≡◌, ◌+◌, Bool, [], ◌∷◌, ◌++◌, cond, ap, ◌∙◌, zero-add}
use Rattle.std.specs.List.{range_with_len, filter}
use Rattle.std.proofs.lemmas.List.Elements.{filter-append}
use Rattle.tv_lemmas.proofs.Lists.{range_more}

pub filter_range_more : (p : ℕ → Bool) (n : ℕ)
    → filter p (range_with_len 0 (n + 1)) ≡ filter p (range_with_len 0 n) ++ cond (p n) (n ∷ []) []
filter_range_more p n =
    ap (filter p) (range_more 0 n) ∙ filter-append p (range_with_len 0 n) ((0 + n) ∷ [])
    ∙ ap (λ k. filter p (range_with_len 0 n) ++ cond (p k) (k ∷ []) []) (zero-add n)
