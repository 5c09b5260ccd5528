-- The places of true flags, and the numbers of the rules that these are the flags of.
use Rattle.std.proofs.Common.{ℕ, zero, suc, ◌≡◌, ◌<◌, ◌≤◌, ◌+◌, ◌↔◌, ◌∙◌, Bool, true, false, List, [], ◌∷◌}
use Rattle.std.proofs.Common.{◌++◌, length, drop, slice_index, Some, slice_get, Result, Ok, Err, IfOk, ⊎_elim}
use Rattle.std.proofs.Common.{refl, sym, ap, subst, Contains, arith}
use Rattle.std.specs.List.{AllZip}
use Rattle.std.specs.List.Sorted.{IsStrictlyIncreasing}
use Rattle.std.proofs.lemmas.Bool.{false≢true}
use Rattle.std.proofs.lemmas.List.{append-nil, at_drop_all}
use Rattle.tv_model.proofs.Lists.{Contains-here, Contains-there, Contains-none, Contains-cases}
use Rattle.tv_model.specs.Program.{RuleForm}
use Rattle.tv_rules.specs.Standing.{AreNumbersOf}
use Rattle.tv_rules.specs.Flags.{Flags, AreTrueAt, true_places}

some-same : {X : Type 0} (x y : X) → Some x ≡ Some y → x ≡ y
some-same x y e = cc e

places-from : (flags : List Bool) (n k : ℕ) → Contains (true_places n flags) k
    → (j : ℕ) × (k ≡ j + n) × (slice_get flags j ≡ Some true)
places-from [] n k at = absurd (Contains-none k at)
places-from (true ∷ flags) n k at =
    ⊎_elim
    (λ same. (0, omega (arith, same), refl))
    (λ later. let r : (j : ℕ) × (k ≡ j + suc n) × (slice_get flags j ≡ Some true) = places-from flags (suc n) k later
    in (suc r.0, omega (arith, r.1), r.2))
    (Contains-cases n k (true_places (suc n) flags) at)
places-from (false ∷ flags) n k at =
    let r : (j : ℕ) × (k ≡ j + suc n) × (slice_get flags j ≡ Some true) = places-from flags (suc n) k at
    in (suc r.0, omega (arith, r.1), r.2)

places-at : (flags : List Bool) (n j k : ℕ) → k ≡ j + n → slice_get flags j ≡ Some true → Contains (true_places n flags) k
places-at [] n j k e at = absurd (cc at)
places-at (true ∷ flags) n zero k e at =
    let same : n ≡ k = omega (arith, e)
    in let Has : ℕ → Type 0 = λ x. Contains (n ∷ true_places (suc n) flags) x
    in subst Has same (Contains-here n (true_places (suc n) flags))
places-at (false ∷ flags) n zero k e at = absurd (false≢true (some-same false true at))
places-at (true ∷ flags) n (suc j) k e at =
    Contains-there n k (true_places (suc n) flags) (places-at flags (suc n) j k (omega (arith, e)) at)
places-at (false ∷ flags) n (suc j) k e at = places-at flags (suc n) j k (omega (arith, e)) at

increasing-cons : (x : ℕ) (xs : List ℕ) → ((y : ℕ) → Contains xs y → x < y) → IsStrictlyIncreasing xs
    → IsStrictlyIncreasing (x ∷ xs)
increasing-cons x [] below later k less = absurd (omega (arith, less))
increasing-cons x (y ∷ ys) below later zero less = below y (Contains-here y ys)
increasing-cons x (y ∷ ys) below later (suc k) less =
    let At : ℕ → Type 0 = λ m. slice_index (y ∷ ys) k < slice_index (x ∷ y ∷ ys) m
    in let e : suc (k + 1) ≡ suc k + 1 = omega arith
    in subst At e (later k (omega (arith, less)))

places-increase : (flags : List Bool) (n : ℕ) → IsStrictlyIncreasing (true_places n flags)
places-increase [] n = λ k less. absurd (omega (arith, less))
places-increase (true ∷ flags) n =
    increasing-cons n (true_places (suc n) flags)
    (λ y at. let r : (j : ℕ) × (y ≡ j + suc n) × (slice_get flags j ≡ Some true) = places-from flags (suc n) y at
    in omega (arith, r.1))
    (places-increase flags (suc n))
places-increase (false ∷ flags) n = places-increase flags (suc n)

-- all flags were gone through
pub all-noted : (flags : List Bool) (numbers : List ℕ) (i : ℕ) → length flags ≤ i
    → numbers ++ true_places i (drop i flags) ≡ true_places 0 flags → numbers ≡ true_places 0 flags
all-noted flags numbers i done before =
    sym (append-nil numbers) ∙ ap (λ ns. numbers ++ ns) (sym (at_drop_all (true_places i) flags i done)) ∙ before

pub places-are : (flags : List Bool) (numbers : List ℕ) → numbers ≡ true_places 0 flags → AreTrueAt flags numbers
places-are flags numbers is =
    let Of : List ℕ → Type 0 = λ ns. AreTrueAt flags ns
    in subst Of (sym is) (record {
      exact = λ n. (from n, λ at. places-at flags 0 n n (omega arith) at);
      increasing = places-increase flags 0;
    })
  where
    from : (n : ℕ) → Contains (true_places 0 flags) n → slice_get flags n ≡ Some true
    from n at =
        let r : (j : ℕ) × (n ≡ j + 0) × (slice_get flags j ≡ Some true) = places-from flags 0 n at
        in let same : r.0 ≡ n = omega (arith, r.1)
        in let At : ℕ → Type 0 = λ m. slice_get flags m ≡ Some true
        in subst At same r.2

-- a true flag is of a rule that is so, and the other way round
flagged : (IsSo : RuleForm → Type 0) (rules : List RuleForm) (flags : List Bool) → AllZip (Flags IsSo) rules flags → (n : ℕ)
    → slice_get flags n ≡ Some true ↔ ((rule : RuleForm) × (slice_get rules n ≡ Some rule) × IsSo rule)
flagged IsSo [] [] all n = (λ at. absurd (cc at), λ at. absurd (cc at.1))
flagged IsSo [] (flag ∷ flags) all n = absurd all
flagged IsSo (rule ∷ rules) [] all n = absurd all
flagged IsSo (rule ∷ rules) (flag ∷ flags) all zero = (
  λ at. (rule, refl, all.0.0 (some-same flag true at)),
  λ at. let Is : RuleForm → Type 0 = λ r. IsSo r
      in ap (λ b. Some b) (all.0.1 (subst Is (sym (some-same rule at.0 at.1)) at.2)),
)
flagged IsSo (rule ∷ rules) (flag ∷ flags) all (suc n) = flagged IsSo rules flags all.1 n

pub numbers-are : (IsSo : RuleForm → Type 0) (rules : List RuleForm) (flags : List Bool) (numbers : List ℕ)
    → AllZip (Flags IsSo) rules flags → AreTrueAt flags numbers → AreNumbersOf IsSo rules numbers
numbers-are IsSo rules flags numbers all places = record {
  exact = λ n. (
    λ at. (flagged IsSo rules flags all n).0 ((places.exact n).0 at),
    λ at. (places.exact n).1 ((flagged IsSo rules flags all n).1 at),
  );
  increasing = places.increasing;
}

-- the same of an answer that may be lack of memory
pub numbers-of_result : {E : Type 0} (IsSo : RuleForm → Type 0) (rules : List RuleForm) (flags read : List Bool) → read ≡ flags
    → (result : Result (List ℕ) E) → AllZip (Flags IsSo) rules flags → IfOk result (AreTrueAt read)
    → IfOk result (AreNumbersOf IsSo rules)
numbers-of_result IsSo rules flags read same (Ok numbers) all places =
    let Of : List Bool → Type 0 = λ fs. AreTrueAt fs numbers in numbers-are IsSo rules flags numbers all (subst Of same places)
numbers-of_result IsSo rules flags read same (Err e) all places = tt
