-- A list of different individuals is the front of a renaming: one exchange for each of them.
use Rattle.std.proofs.Common.{ℕ, zero, suc, ◌≡◌, ◌≢◌, ◌⊎◌, ◌<◌, ◌≤◌, List, length, get_or, AllPairs, inl, inr}
use Rattle.std.proofs.Common.{refl, sym, ap, ◌∙◌, arith}
use Rattle.std.proofs.lemmas.Bool.{cases_lt}
use Rattle.tv_model.proofs.Assignments.{swap, swap-first, swap-rest, swap-twice}
use Rattle.tv_renaming_laws.specs.Renamed.{IsRenaming}
use Rattle.tv_renaming_laws.specs.Laws.{FrontsAreRenamings}

-- a renaming that calls the numbers below n as the list does
record IsFront (xs : List ℕ) (n : ℕ) (r s : ℕ → ℕ) : Type 0 where
  is : IsRenaming r s
  front : (k : ℕ) → k < n → r k ≡ get_or xs k 0

one-more : (xs : List ℕ) → AllPairs ◌≢◌ xs → (n : ℕ) → n < length xs → (r s : ℕ → ℕ) → IsFront xs n r s
    → IsFront xs (suc n) (λ u. swap (r n) (get_or xs n 0) (r u)) (λ w. s (swap (r n) (get_or xs n 0) w))
one-more xs apart n within r s f = record {
  is = record {
    back = λ u. ap s (swap-twice (r n) (get_or xs n 0) (r u)) ∙ f.is.back u;
    there = λ w. ap (swap (r n) (get_or xs n 0)) (f.is.there (swap (r n) (get_or xs n 0) w)) ∙ swap-twice (r n) (get_or xs n 0) w;
  };
  front = λ k less. at k (cases_lt k n) less;
}
  where
    at : (k : ℕ) → (k < n) ⊎ (n ≤ k) → k < suc n → swap (r n) (get_or xs n 0) (r k) ≡ get_or xs k 0
    at k (inl lt) less =
        swap-rest (r n) (get_or xs n 0) (r k)
        (λ e. let same : k ≡ n = sym (f.is.back k) ∙ ap s e ∙ f.is.back n in absurd (omega (arith, lt, same)))
        (λ e. apart k n 0 lt within (sym (f.front k lt) ∙ e))
        ∙ f.front k lt
    at k (inr le) less =
        let e : k ≡ n = omega (arith, le, less)
        in swap-first (r n) (get_or xs n 0) (r k) (ap r e) ∙ ap (λ i. get_or xs i 0) (sym e)

some-front : (xs : List ℕ) → AllPairs ◌≢◌ xs → (n : ℕ) → n ≤ length xs → (r s : ℕ → ℕ) × IsFront xs n r s
some-front xs apart zero within = (
  λ u. u,
  λ u. u,
  record { is = record { back = λ u. refl; there = λ w. refl }; front = λ k less. absurd (omega (arith, less)) },
)
some-front xs apart (suc n) within =
    let before = some-front xs apart n (omega (arith, within))
    in (
      λ u. swap (before.0 n) (get_or xs n 0) (before.0 u),
      λ w. before.1 (swap (before.0 n) (get_or xs n 0) w),
      one-more xs apart n (omega (arith, within)) before.0 before.1 before.2,
    )

pub fronts_are_renamings : FrontsAreRenamings
fronts_are_renamings xs apart =
    let found = some-front xs apart (length xs) (omega arith)
    in (found.0, found.1, found.2.is, λ k less. found.2.front k less)
