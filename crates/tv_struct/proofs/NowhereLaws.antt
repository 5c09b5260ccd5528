-- Rows and words in which nothing is possible, and unary predicates that are No everywhere.
use Rattle.std.proofs.Common.{ℕ, refl, ◌≡◌, ◌≢◌, ◌⊎◌, ◌<◌, ◌≤◌, ◌+◌, ◌∙◌, ◌-◌, ◌*◌, inl, inr, List, [], ◌∷◌}
use Rattle.std.proofs.Common.{get_or, ap, cond}
use Rattle.std.proofs.Common.{length, sym, subst, arith, ⊎_elim}
use Rattle.std.specs.Prelude.{Any}
use Rattle.std.proofs.lemmas.Bool.{cases_lt, lt-ltb}
use Rattle.std.proofs.lemmas.List.{get_or_default, get_or_past}
use Rattle.tv_kleene.specs.declared.K3.{K3}
use Rattle.tv_kleene.specs.declared.K3.TheVariants.{No, Half, Yes}
use Rattle.tv_row.specs.Bits.{greatest_in, padded}
use Rattle.tv_row.proofs.WordOps.{length-padded, get_or-padded}
use Rattle.tv_row.proofs.Extremes.{any_possible}
use Rattle.tv_structure_form.specs.StructureForm.{StructureForm, value_at}

pub no_possible : (row : List K3) → ¬ Any (λ x. x ≢ No) row → (u : ℕ) → get_or row u No ≡ No
no_possible row none u = ⊎_elim (λ lt. by_kind lt (get_or row u No) refl) (λ past. get_or_past row u No past) (cases_lt u (length row))
  where
    by_kind : u < length row → (k : K3) → get_or row u No ≡ k → get_or row u No ≡ No
    by_kind lt No e = e
    by_kind lt Half e = absurd (none (u, Half, lt, get_or_default row u Half No lt ∙ e, λ f. let g : Half ≡ No = f in cc))
    by_kind lt Yes e = absurd (none (u, Yes, lt, get_or_default row u Yes No lt ∙ e, λ f. let g : Yes ≡ No = f in cc))

pub word_none : (word : List K3) (i : ℕ) → greatest_in word ≡ No → i < length word → get_or word i No ≡ No
word_none word i none lt = at (get_or word i No) refl
  where
    some : (k : K3) → get_or word i No ≡ k → k ≢ No → ⊥
    some k is other = (any_possible word).1 (i, k, lt, get_or_default word i k No lt ∙ is, other) none

    at : (k : K3) → get_or word i No ≡ k → k ≡ No
    at No is = refl
    at Half is = absurd (some Half is (λ e. cc))
    at Yes is = absurd (some Yes is (λ e. cc))

-- the values up to the end of a word, where they are No before it
pub none_more : (s : StructureForm) (p chunk : ℕ) (word : List K3) → greatest_in word ≡ No → length word ≡ 64
    → ((i : ℕ) → i < 64 → 64 * chunk + i < s.size → get_or word i No ≡ value_at s p ((64 * chunk + i) ∷ []))
    → ((u : ℕ) → u < 64 * chunk → u < s.size → value_at s p (u ∷ []) ≡ No)
    → (u : ℕ) → u < 64 * (chunk + 1) → u < s.size → value_at s p (u ∷ []) ≡ No
none_more s p chunk word none long values before u lt in_s = at (cases_lt u (64 * chunk))
  where
    at : (u < 64 * chunk) ⊎ (64 * chunk ≤ u) → value_at s p (u ∷ []) ≡ No
    at (inl less) = before u less in_s
    at (inr past) =
        let i : ℕ = u - 64 * chunk
        in let place : 64 * chunk + i ≡ u = omega (arith, past)
        in let inside : i < 64 = omega (arith, past, lt)
        in let P : ℕ → Type 0 = λ x. value_at s p (x ∷ []) ≡ No
        in subst P place
        (sym (values i inside (omega (arith, place, in_s))) ∙ word_none word i none (omega (arith, inside, long)))

-- a row of which a word with the front values is No
pub front_none : (row word front : List K3) (size : ℕ) → length row ≡ size → size ≤ 64 → length word ≡ 64 → front ≡ padded size word
    → greatest_in front ≡ No → ((i : ℕ) → i < 64 → 64 * 0 + i < length row → get_or word i No ≡ get_or row (64 * 0 + i) No)
    → (u : ℕ) → get_or row u No ≡ No
front_none row word front size many small long is none values u =
    ⊎_elim
    (λ lt.
    let at : 64 * 0 + u ≡ u = omega arith
    in let wide : length front ≡ 64 = ap length is ∙ length-padded size word small long
    in ap (λ i. get_or row i No) (sym at) ∙ sym (values u (omega (arith, lt, small)) (omega (arith, lt, many)))
    ∙ sym (get_or-padded size word u small long (omega (arith, lt, small)) ∙ ap (λ b. cond b (get_or word u No) No) (lt-ltb u size lt))
    ∙ ap (λ (w : List K3). get_or w u No) (sym is) ∙ word_none front u none (omega (arith, wide, lt, small)))
    (λ past. get_or_past row u No (omega (arith, past, many)))
    (cases_lt u size)
