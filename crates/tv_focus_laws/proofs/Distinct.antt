-- Lists without repeats, one element at a time.
use Rattle.std.proofs.Common.{ℕ, ◌≡◌, ◌≢◌, ◌<◌, ◌≤◌, ◌+◌, zero, suc, Bool, true, false, cond, List, [], ◌∷◌}
use Rattle.std.proofs.Common.{◌++◌, ◌⊎◌, inl, inr, ⊎_elim, length, get_or, map, refl, sym, ap, subst, ◌∙◌}
use Rattle.std.proofs.Common.{arith, Contains}
use Rattle.std.specs.Prelude.{AllPairs}
use Rattle.std.specs.List.{flat_map, filter}
use Rattle.std.proofs.lemmas.Bool.{cases_Bool, cond-true, cond-false, false≢true}
use Rattle.std.proofs.lemmas.List.Elements.{Contains-append_left, Contains-append_right}
use Rattle.std.proofs.lemmas.List.Elements.{Contains-append_cases, Contains-get_or}
use Rattle.tv_model.proofs.Lists.{Contains-here, Contains-there, Contains-none, Contains-cases}
use Rattle.tv_focus_laws.proofs.Membership.{ComesFrom, Contains-from_map, Contains-from_filter}

-- no element stands twice in the list
abbrev pub Distinct : {X : Type 0} → List X → Type 0
Distinct [] = Unit {0}
Distinct (x ∷ xs) = (¬ Contains xs x) × Distinct xs

pub Distinct-from_pairs : {X : Type 0} (xs : List X) → AllPairs ◌≢◌ xs → Distinct xs
Distinct-from_pairs [] pairs = tt
Distinct-from_pairs {X} (x ∷ xs) pairs = (
  λ at. pairs 0 (suc at.0) x (omega arith) (omega (arith, at.1)) (sym at.2),
  Distinct-from_pairs xs (λ i j d below inside. pairs (suc i) (suc j) d (omega arith) (omega arith)),
)

-- two places of one element are one place
pub Distinct-place : {X : Type 0} (xs : List X) (i j : ℕ) (d : X) → Distinct xs → i < length xs → j < length xs
    → get_or xs i d ≡ get_or xs j d → i ≡ j
Distinct-place [] i j d distinct bi bj e = absurd (omega (arith, bi))
Distinct-place (x ∷ xs) zero zero d distinct bi bj e = refl
Distinct-place {X} (x ∷ xs) zero (suc j) d distinct bi bj e =
    let Has : X → Type 0 = λ z. Contains xs z
    in absurd (distinct.0 (subst Has (sym e) (Contains-get_or xs j d (omega (arith, bj)))))
Distinct-place {X} (x ∷ xs) (suc i) zero d distinct bi bj e =
    let Has : X → Type 0 = λ z. Contains xs z
    in absurd (distinct.0 (subst Has e (Contains-get_or xs i d (omega (arith, bi)))))
Distinct-place (x ∷ xs) (suc i) (suc j) d distinct bi bj e =
    ap suc (Distinct-place xs i j d distinct.1 (omega (arith, bi)) (omega (arith, bj)) e)

pub Distinct-append : {X : Type 0} (xs ys : List X) → Distinct xs → Distinct ys
    → ((x : X) → Contains xs x → Contains ys x → ⊥) → Distinct (xs ++ ys)
Distinct-append [] ys a b apart = b
Distinct-append (x ∷ xs) ys a b apart = (
  λ at. ⊎_elim a.0 (λ there. apart x (Contains-here x xs) there) (Contains-append_cases xs ys x at),
  Distinct-append xs ys a.1 b (λ y there other. apart y (Contains-there x y xs there) other),
)

pub Distinct-map : {X Y : Type 0} (f : X → Y) → ((x y : X) → f x ≡ f y → x ≡ y) → (xs : List X) → Distinct xs
    → Distinct (map f xs)
Distinct-map f injective [] distinct = tt
Distinct-map {X} {Y} f injective (x ∷ xs) distinct = (
  λ at. let from : ComesFrom f xs (f x) = Contains-from_map f (f x) xs at
      in let Has : X → Type 0 = λ z. Contains xs z
      in distinct.0 (subst Has (injective from.source x from.goes) from.at),
  Distinct-map f injective xs distinct.1,
)

pub Distinct-filter : {X : Type 0} (p : X → Bool) (xs : List X) → Distinct xs → Distinct (filter p xs)
Distinct-filter p [] distinct = tt
Distinct-filter {X} p (x ∷ xs) distinct =
    let Apart : List X → Type 0 = λ ys. Distinct ys
    in let rest : Distinct (filter p xs) = Distinct-filter p xs distinct.1
    in ⊎_elim
    (λ e. subst Apart (sym (cond-true (p x) (x ∷ filter p xs) (filter p xs) e))
    (λ at. distinct.0 (Contains-from_filter p x xs at).0, rest))
    (λ e. subst Apart (sym (cond-false (p x) (x ∷ filter p xs) (filter p xs) e)) rest)
    (cases_Bool (p x))

-- a list without repeats of which any two elements are one has at most one
pub Distinct-one : {X : Type 0} (xs : List X) → Distinct xs → ((x y : X) → Contains xs x → Contains xs y → x ≡ y)
    → length xs ≤ 1
Distinct-one [] distinct same = omega arith
Distinct-one (x ∷ []) distinct same = omega arith
Distinct-one {X} (x ∷ y ∷ xs) distinct same =
    let Has : X → Type 0 = λ z. Contains (y ∷ xs) z
    in absurd (distinct.0 (subst Has (same y x (Contains-there x y (y ∷ xs) (Contains-here y xs)) (Contains-here x (y ∷ xs)))
    (Contains-here y xs)))
