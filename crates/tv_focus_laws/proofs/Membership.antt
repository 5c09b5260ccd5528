-- Membership in lists that are made from others.
use Rattle.std.proofs.Common.{ℕ, ◌≡◌, ◌<◌, ◌≤◌, ◌+◌, zero, suc, Bool, true, false, cond, List, [], ◌∷◌, ◌++◌}
use Rattle.std.proofs.Common.{◌⊎◌, inl, inr, ⊎_elim, length, map, refl, sym, ap, subst, ◌∙◌, arith, Contains}
use Rattle.std.specs.List.{flat_map, filter}
use Rattle.std.proofs.lemmas.Bool.{cases_Bool, cond-true, cond-false, false≢true}
use Rattle.std.proofs.lemmas.List.Elements.{Contains-append_left, Contains-append_right}
use Rattle.std.proofs.lemmas.List.Elements.{Contains-append_cases}
use Rattle.tv_model.proofs.Lists.{Contains-here, Contains-there, Contains-none, Contains-cases}

-- what an element of a mapped list comes from
pub record ComesFrom {X Y : Type 0} (f : X → Y) (xs : List X) (y : Y) : Type 0 where
  pub source : X
  pub at : Contains xs source
  pub goes : f source ≡ y

pub Contains-from_map : {X Y : Type 0} (f : X → Y) (y : Y) (xs : List X) → Contains (map f xs) y → ComesFrom f xs y
Contains-from_map f y [] at = absurd (Contains-none y at)
Contains-from_map {X} {Y} f y (x ∷ xs) at =
    ⊎_elim
    (λ e. record { source = x; at = Contains-here x xs; goes = e })
    (λ there. let rest : ComesFrom f xs y = Contains-from_map f y xs there
    in record { source = rest.source; at = Contains-there x rest.source xs rest.at; goes = rest.goes })
    (Contains-cases (f x) y (map f xs) at)

pub Contains-flat_map : {X Y : Type 0} (f : X → List Y) (x : X) (y : Y) (xs : List X) → Contains xs x → Contains (f x) y
    → Contains (flat_map f xs) y
Contains-flat_map f x y [] at has = absurd (Contains-none x at)
Contains-flat_map {X} {Y} f x y (z ∷ xs) at has =
    let Has : X → Type 0 = λ w. Contains (f w) y
    in ⊎_elim
    (λ e. Contains-append_left (f z) (flat_map f xs) y (subst Has (sym e) has))
    (λ there. Contains-append_right (f z) (flat_map f xs) y (Contains-flat_map f x y xs there has))
    (Contains-cases z x xs at)

-- ---- filters

pub Contains-filter : {X : Type 0} (p : X → Bool) (x : X) (xs : List X) → Contains xs x → p x ≡ true → Contains (filter p xs) x
Contains-filter p x [] at passes = absurd (Contains-none x at)
Contains-filter {X} p x (y ∷ xs) at passes =
    let Has : List X → Type 0 = λ ys. Contains ys x
    in let AtHead : X → Type 0 = λ z. Contains (y ∷ filter p xs) z
    in let Passes : X → Type 0 = λ z. p z ≡ true
    in ⊎_elim
    (λ e. subst Has (sym (cond-true (p y) (y ∷ filter p xs) (filter p xs) e))
    (⊎_elim
    (λ same. subst AtHead same (Contains-here y (filter p xs)))
    (λ there. Contains-there y x (filter p xs) (Contains-filter p x xs there passes))
    (Contains-cases y x xs at)))
    (λ e. subst Has (sym (cond-false (p y) (y ∷ filter p xs) (filter p xs) e))
    (⊎_elim
    (λ same. absurd (false≢true (sym e ∙ subst Passes (sym same) passes)))
    (λ there. Contains-filter p x xs there passes)
    (Contains-cases y x xs at)))
    (cases_Bool (p y))

pub Contains-from_filter : {X : Type 0} (p : X → Bool) (x : X) (xs : List X) → Contains (filter p xs) x
    → Contains xs x × (p x ≡ true)
Contains-from_filter p x [] at = absurd (Contains-none x at)
Contains-from_filter {X} p x (y ∷ xs) at =
    let Has : List X → Type 0 = λ ys. Contains ys x
    in let Both : X → Type 0 = λ z. Contains (y ∷ xs) z × (p z ≡ true)
    in let later : Contains (filter p xs) x → Contains (y ∷ xs) x × (p x ≡ true)
    = λ there. (Contains-there y x xs (Contains-from_filter p x xs there).0, (Contains-from_filter p x xs there).1)
    in ⊎_elim
    (λ e. ⊎_elim
    (λ same. subst Both same (Contains-here y xs, e))
    later
    (Contains-cases y x (filter p xs) (subst Has (cond-true (p y) (y ∷ filter p xs) (filter p xs) e) at)))
    (λ e. later (subst Has (cond-false (p y) (y ∷ filter p xs) (filter p xs) e) at))
    (cases_Bool (p y))

pub length-filter_le : {X : Type 0} (p : X → Bool) (xs : List X) → length (filter p xs) ≤ length xs
length-filter_le p [] = omega arith
length-filter_le {X} p (y ∷ xs) =
    let rest : length (filter p xs) ≤ length xs = length-filter_le p xs
    in ⊎_elim
    (λ e. let now : length (cond (p y) (y ∷ filter p xs) (filter p xs)) ≡ suc (length (filter p xs))
    = ap length (cond-true (p y) (y ∷ filter p xs) (filter p xs) e) in omega arith)
    (λ e. let now : length (cond (p y) (y ∷ filter p xs) (filter p xs)) ≡ length (filter p xs)
    = ap length (cond-false (p y) (y ∷ filter p xs) (filter p xs) e) in omega arith)
    (cases_Bool (p y))

pub some-from_Contains : {X : Type 0} (x : X) (xs : List X) → Contains xs x → 1 ≤ length xs
some-from_Contains x xs at = omega (arith, at.1)
