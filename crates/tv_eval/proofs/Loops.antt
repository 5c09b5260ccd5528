-- The steps of the loops over individuals.
use Rattle.std.proofs.Common.{ℕ, ◌≡◌, ◌<◌, ◌≤◌, ◌+◌, ◌-◌, ◌≢◌, ◌⊎◌, inl, inr, ⊎_elim, List, refl, sym, ap}
use Rattle.std.proofs.Common.{subst, ◌∙◌, arith}
use Rattle.std.specs.List.{range_with_len}
use Rattle.std.specs.Prelude.{Bool, true, false, MatchBool}
use Rattle.std.proofs.lemmas.List.FromFn.{length-range_with_len, get_or-range_with_len}
use Rattle.std.proofs.lemmas.Bool.{cases_eq}
use Rattle.tv_kleene.specs.declared.K3.{K3}
use Rattle.tv_kleene.specs.declared.K3.TheVariants.{No, Half, Yes}
use Rattle.tv_kleene.specs.Kleene.{larger_of}
use Rattle.tv_eval_laws.specs.Value.{greatest_of, best_walk}
use Rattle.tv_quantifiers.proofs.RowLaws.{range-front, best-agrees}

-- what a comparison told
pub told-equal : (x y : K3) (b : Bool) → MatchBool b (x ≡ y) (x ≢ y) → b ≡ true → x ≡ y
told-equal x y true same e = same
told-equal x y false same e = cc

pub larger-assoc : (x y z : K3) → larger_of (larger_of x y) z ≡ larger_of x (larger_of y z)
larger-assoc No y z = refl
larger-assoc Yes y z = refl
larger-assoc Half No z = refl
larger-assoc Half Half No = refl
larger-assoc Half Half Half = refl
larger-assoc Half Half Yes = refl
larger-assoc Half Yes z = refl

-- the greatest value, of which the values below u are found, with one more found
pub greatest-next : (g : ℕ → K3) (n u : ℕ) (found next whole : K3) → u < n
    → larger_of found (greatest_of g (range_with_len u (n - u))) ≡ whole
    → next ≡ larger_of found (g u)
    → larger_of next (greatest_of g (range_with_len (u + 1) (n - (u + 1)))) ≡ whole
greatest-next g n u found next whole lt before is =
    rw is
    (larger-assoc found (g u) (greatest_of g (range_with_len (u + 1) (n - (u + 1))))
    ∙ ap (λ us. larger_of found (greatest_of g us)) (sym (range-front u n lt))
    ∙ before)

pub larger-none : (x : K3) → larger_of x No ≡ x
larger-none No = refl
larger-none Half = refl
larger-none Yes = refl

-- all values are found
pub greatest-end : (g : ℕ → K3) (n u : ℕ) (found whole : K3) → n ≤ u
    → larger_of found (greatest_of g (range_with_len u (n - u))) ≡ whole → found ≡ whole
greatest-end g n u found whole le before =
    let none : n - u ≡ 0 = omega arith
    in let At : ℕ → Type 0 = λ k. larger_of found (greatest_of g (range_with_len u k)) ≡ whole
    in sym (larger-none found) ∙ subst At none before

-- Yes is the greatest
pub greatest-yes : (g : ℕ → K3) (us : List ℕ) (next whole : K3) → larger_of next (greatest_of g us) ≡ whole →
    next ≡ Yes → next ≡ whole
greatest-yes g us next whole before is =
    let At : K3 → Type 0 = λ k. larger_of k (greatest_of g us) ≡ whole
    in is ∙ subst At is before

-- a row with one more edge
pub row-next : (old now new : ℕ → ℕ → K3) (edge : ℕ → K3) (u w : ℕ)
    → ((x : ℕ) → x < w → now u x ≡ edge x)
    → ((v x : ℕ) → v ≢ u → now v x ≡ old v x)
    → new u w ≡ edge w
    → ((v x : ℕ) → (v ≢ u) ⊎ (x ≢ w) → new v x ≡ now v x)
    → ((x : ℕ) → x < w + 1 → new u x ≡ edge x) × ((v x : ℕ) → v ≢ u → new v x ≡ old v x)
row-next old now new edge u w done others here kept = (
  λ x lx. ⊎_elim (λ e. rw e here) (λ ne. kept u x (inr ne) ∙ done x (omega arith)) (cases_eq x w),
  λ v x ne. kept v x (inl ne) ∙ others v x ne,
)

-- edges with one more row
pub rows-next : (now new : ℕ → ℕ → K3) (edge : ℕ → ℕ → K3) (n u : ℕ)
    → ((v x : ℕ) → v < u → x < n → now v x ≡ edge v x)
    → ((x : ℕ) → x < n → new u x ≡ edge u x)
    → ((v x : ℕ) → v ≢ u → new v x ≡ now v x)
    → (v x : ℕ) → v < u + 1 → x < n → new v x ≡ edge v x
rows-next now new edge n u done here kept v x lv lx =
    ⊎_elim (λ e. rw e (here x lx)) (λ ne. kept v x ne ∙ done v x (omega arith) lx) (cases_eq v u)

-- closing the edges of a closure gives its values
pub closed-value : (edge filled closed : ℕ → ℕ → K3) (n : ℕ)
    → ((u w : ℕ) → u < n → w < n → filled u w ≡ edge u w)
    → ((u w : ℕ) → u < n → w < n → closed u w ≡ best_walk filled (range_with_len 0 n) u w)
    → (u w : ℕ) → u < n → w < n → closed u w ≡ best_walk edge (range_with_len 0 n) u w
closed-value edge filled closed n fills closes u w lu lw =
    closes u w lu lw
    ∙ best-agrees filled edge n (range_with_len 0 n) fills
    (λ i li.
    let below : i < n = rw (← length-range_with_len 0 n) li
    in rw (get_or-range_with_len 0 n i 0 below) (omega arith))
    u w lu lw
