-- The predicates that formulas mention, one after the other.
use Rattle.std.proofs.Common.{ℕ, ◌≡◌, ◌<◌, ◌≤◌, ◌+◌, ◌⊎◌, Bool, List, [], ◌∷◌, length, take, inl, inr, ⊎_elim}
use Rattle.std.proofs.Common.{subst, arith, add-one, get_or, All, Contains}
use Rattle.std.specs.Prelude.{IsTrue}
use Rattle.std.proofs.lemmas.Bool.{cases_lt}
use Rattle.std.proofs.lemmas.List.Elements.{All-nil, All-cons, All-append, All-contains}
use Rattle.std.proofs.Math.Seq.{take-suc}
use Rattle.tv_model.specs.declared.formula.Formula.{Formula}
use Rattle.tv_model.specs.Form.{form_of, Mentions}
use Rattle.tv_model.proofs.Lists.{All-from_contains}
use Rattle.tv_coerce_sets.specs.Listed.{AreListed}

-- what holds of the next of a list's elements too
pub all-next : {X : Type 0} (P : X → Type 0) (xs : List X) (i : ℕ) (x : X) → i < length xs → x ≡ get_or xs i x
    → All P (take i xs) → P x → All P (take (i + 1) xs)
all-next P xs i x lt is before own =
    rw (add-one, take-suc xs i x lt, ← is)
    (All-append P (take i xs) (x ∷ []) before (All-cons P x [] own (All-nil P)))

pub listed-none : (fs : List Formula) (preds : List ℕ) → AreListed 0 fs preds
listed-none fs preds =
    All-from_contains (λ f. (q : ℕ) → q < 0 → Mentions q (form_of f) → Contains preds q) fs
    (λ f at q lt. absurd (omega (arith, lt)))

pub listed-next : (fs : List Formula) (i : ℕ) (on : Bool) (old new : List ℕ) → AreListed i fs old
    → All (λ f. Mentions i (form_of f) → IsTrue on) fs
    → ((q : ℕ) → Contains old q ⊎ ((q ≡ i) × IsTrue on) → Contains new q) → AreListed (i + 1) fs new
listed-next fs i on old new before told more =
    All-from_contains (λ f. (q : ℕ) → q < i + 1 → Mentions q (form_of f) → Contains new q) fs
    (λ f at q lt mentions. more q (⊎_elim
    (λ below. inl (All-contains (λ g. (r : ℕ) → r < i → Mentions r (form_of g) → Contains old r) fs f before at q
    below mentions))
    (λ past. let same : q ≡ i = omega (arith, lt, past)
    in inr (
      same,
      All-contains (λ g. Mentions i (form_of g) → IsTrue on) fs f told at
          (subst (λ r. Mentions r (form_of f)) same mentions),
    ))
    (cases_lt q i)))

pub listed-all : (fs : List Formula) (n i : ℕ) (preds : List ℕ) → n ≤ i → AreListed i fs preds
    → AreListed n fs preds
listed-all fs n i preds all listed =
    All-from_contains (λ f. (q : ℕ) → q < n → Mentions q (form_of f) → Contains preds q) fs
    (λ f at q lt. All-contains (λ g. (r : ℕ) → r < i → Mentions r (form_of g) → Contains preds r) fs f listed at q
    (omega (arith, lt, all)))
