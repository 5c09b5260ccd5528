-- Folds and sums over the numbers below a bound.
use Rattle.std.proofs.Common.{ℕ, ◌≡◌, ◌+◌, List, [], ◌∷◌, ◌++◌, map, sum, refl, ap, ◌∙◌, zero-add}
use Rattle.std.specs.Prelude.{fold}
use Rattle.std.specs.List.{range_with_len}
use Rattle.std.proofs.lemmas.List.{map-append}
use Rattle.std.proofs.lemmas.List.Sums.{sum_by_push}
use Rattle.tv_lemmas.proofs.Lists.{range_more}

fold-more : {A B : Type 0} (f : A → B → A) (start : A) (xs : List B) (x : B) → fold f start (xs ++ x ∷ []) ≡ f (fold f start xs) x
fold-more f start [] x = refl
fold-more f start (y ∷ xs) x = fold-more f (f start y) xs x

pub fold_range_more : {A : Type 0} (f : A → ℕ → A) (start : A) (n : ℕ)
    → fold f start (range_with_len 0 (n + 1)) ≡ f (fold f start (range_with_len 0 n)) n
fold_range_more f start n =
    ap (fold f start) (range_more 0 n) ∙ fold-more f start (range_with_len 0 n) (0 + n)
    ∙ ap (f (fold f start (range_with_len 0 n))) (zero-add n)

pub sum_range_more : (f : ℕ → ℕ) (n : ℕ)
    → sum (map f (range_with_len 0 (n + 1))) ≡ sum (map f (range_with_len 0 n)) + f n
sum_range_more f n =
    ap (λ us. sum (map f us)) (range_more 0 n)
    ∙ ap sum (map-append f (range_with_len 0 n) ((0 + n) ∷ []))
    ∙ sum_by_push (λ k. k) (map f (range_with_len 0 n)) (f (0 + n))
    ∙ ap (λ k. sum (map f (range_with_len 0 n)) + f k) (zero-add n)
