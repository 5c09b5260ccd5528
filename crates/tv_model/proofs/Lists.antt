-- Lemmas on lists, for the crates above: what lists contain, element by element, and what maps, filters
-- and pushes do to that.
use Rattle.std.proofs.Common.{ℕ, ◌≡◌, ◌<◌, ◌≤◌, ◌∙◌, zero, suc, List, [], ◌∷◌, ◌++◌, ◌⊎◌, inl, inr, ⊎_elim}
use Rattle.std.proofs.Common.{refl, sym, ap, subst, arith, length, map, filter, Bool, true, false, Some, None}
use Rattle.std.proofs.Common.{slice_get, All, Contains}
use Rattle.std.specs.List.{flat_map}
use Rattle.std.proofs.lemmas.Bool.{cases_Bool, cond-true, cond-false, false≢true}
use Rattle.std.proofs.lemmas.List.Elements.{All-nil, All-cons, Contains-append_left, Contains-append_right}
use Rattle.std.proofs.lemmas.List.Elements.{Contains-append_cases}

-- ---- one element

pub Contains-here : {X : Type 0} (x : X) (xs : List X) → Contains (x ∷ xs) x
Contains-here x xs = (0, omega arith, refl)

pub Contains-there : {X : Type 0} (y x : X) (xs : List X) → Contains xs x → Contains (y ∷ xs) x
Contains-there y x xs at = (suc at.0, omega (arith, at.1), at.2)

pub Contains-none : {X : Type 0} (x : X) → Contains [] x → ⊥
Contains-none x at = omega (arith, at.1)

pub Contains-cases : {X : Type 0} (y x : X) (xs : List X) → Contains (y ∷ xs) x → (y ≡ x) ⊎ Contains xs x
Contains-cases y x xs (zero, below, is) = inl is
Contains-cases y x xs (suc k, below, is) = inr (k, omega (arith, below), is)

-- ---- an element at the end

pub pushed-cases : {X : Type 0} (xs : List X) (x w : X) → Contains (xs ++ x ∷ []) w → Contains xs w ⊎ (w ≡ x)
pushed-cases xs x w at =
    ⊎_elim
    (λ old. inl old)
    (λ last. ⊎_elim (λ e. inr (sym e)) (λ none. absurd (Contains-none w none)) (Contains-cases x w [] last))
    (Contains-append_cases xs (x ∷ []) w at)

pub pushed-old : {X : Type 0} (xs : List X) (x w : X) → Contains xs w → Contains (xs ++ x ∷ []) w
pushed-old xs x w at = Contains-append_left xs (x ∷ []) w at

pub pushed-last : {X : Type 0} (xs : List X) (x w : X) → w ≡ x → Contains (xs ++ x ∷ []) w
pushed-last {X} xs x w e =
    let In : X → Type 0 = λ y. Contains (xs ++ x ∷ []) y
    in subst In (sym e) (Contains-append_right xs (x ∷ []) x (Contains-here x []))

-- ---- maps

pub Contains-map : {X Y : Type 0} (f : X → Y) (x : X) (xs : List X) → Contains xs x → Contains (map f xs) (f x)
Contains-map f x [] at = absurd (Contains-none x at)
Contains-map {X} {Y} f x (y ∷ xs) at = go (Contains-cases y x xs at) (Contains-map f x xs)
  where
    go : (y ≡ x) ⊎ Contains xs x → (Contains xs x → Contains (map f xs) (f x)) → Contains (map f (y ∷ xs)) (f x)
    go (inl e) later = let P : X → Type 0 = λ z. Contains (f y ∷ map f xs) (f z)
        in subst P e (Contains-here (f y) (map f xs))
    go (inr there) later = Contains-there (f y) (f x) (map f xs) (later there)

-- an element of a mapped list comes from one of the list
pub Contains-map_back : {X Y : Type 0} (f : X → Y) (xs : List X) (y : Y) → Contains (map f xs) y
    → (x : X) × Contains xs x × (f x ≡ y)
Contains-map_back f [] y at = absurd (Contains-none y at)
Contains-map_back {X} {Y} f (x ∷ xs) y at =
    ⊎_elim
    (λ e. (x, Contains-here x xs, e))
    (λ there. let rest : (z : X) × Contains xs z × (f z ≡ y) = Contains-map_back f xs y there
    in (rest.0, Contains-there x rest.0 xs rest.1, rest.2))
    (Contains-cases (f x) y (map f xs) at)

pub Contains-flat_map : {X Y : Type 0} (f : X → List Y) (xs : List X) (x : X) (y : Y) → Contains xs x → Contains (f x) y
    → Contains (flat_map f xs) y
Contains-flat_map f [] x y at part = absurd (Contains-none x at)
Contains-flat_map {X} {Y} f (z ∷ xs) x y at part =
    ⊎_elim
    (λ e. let In : X → Type 0 = λ w. Contains (f w) y
    in Contains-append_left (f z) (flat_map f xs) y (subst In (sym e) part))
    (λ there. Contains-append_right (f z) (flat_map f xs) y (Contains-flat_map f xs x y there part))
    (Contains-cases z x xs at)

pub Contains-flat_map_back : {X Y : Type 0} (f : X → List Y) (xs : List X) (y : Y) → Contains (flat_map f xs) y
    → (x : X) × Contains xs x × Contains (f x) y
Contains-flat_map_back f [] y at = absurd (Contains-none y at)
Contains-flat_map_back {X} {Y} f (x ∷ xs) y at =
    ⊎_elim
    (λ here. (x, Contains-here x xs, here))
    (λ there. let rest : (z : X) × Contains xs z × Contains (f z) y = Contains-flat_map_back f xs y there
    in (rest.0, Contains-there x rest.0 xs rest.1, rest.2))
    (Contains-append_cases (f x) (flat_map f xs) y at)

pub map-compose : {X Y Z : Type 0} (f : X → Y) (g : Y → Z) (xs : List X) → map g (map f xs) ≡ map (λ x. g (f x)) xs
map-compose f g [] = refl
map-compose f g (x ∷ xs) = ap (λ rest. g (f x) ∷ rest) (map-compose f g xs)

-- functions that agree on the elements map them alike
pub map-agreed : {X Y : Type 0} (f g : X → Y) (xs : List X) → ((x : X) → Contains xs x → f x ≡ g x)
    → map f xs ≡ map g xs
map-agreed f g [] same = refl
map-agreed f g (x ∷ xs) same =
    rw (same x (Contains-here x xs), map-agreed f g xs (λ y at. same y (Contains-there x y xs at))) refl

-- ---- filters

pub Contains-filter : {X : Type 0} (test : X → Bool) (xs : List X) (x : X) → Contains xs x → test x ≡ true
    → Contains (filter test xs) x
Contains-filter test [] x at passes = absurd (Contains-none x at)
Contains-filter {X} test (y ∷ xs) x at passes =
    go (cases_Bool (test y)) (Contains-cases y x xs at) (λ there. Contains-filter test xs x there passes)
  where
    go : (test y ≡ true) ⊎ (test y ≡ false) → (y ≡ x) ⊎ Contains xs x → (Contains xs x → Contains (filter test xs) x)
        → Contains (filter test (y ∷ xs)) x
    go (inl yes_) (inl e) later =
        let In : X → Type 0 = λ z. Contains (y ∷ filter test xs) z
        in rw (cond-true (test y) (y ∷ filter test xs) (filter test xs) yes_)
        (subst In e (Contains-here y (filter test xs)))
    go (inl yes_) (inr there) later =
        rw (cond-true (test y) (y ∷ filter test xs) (filter test xs) yes_)
        (Contains-there y x (filter test xs) (later there))
    go (inr no_) (inl e) later =
        let Of : X → Type 0 = λ z. test z ≡ true in absurd (false≢true (sym no_ ∙ subst Of (sym e) passes))
    go (inr no_) (inr there) later = rw (cond-false (test y) (y ∷ filter test xs) (filter test xs) no_) (later there)

pub Contains-filter_back : {X : Type 0} (test : X → Bool) (xs : List X) (x : X) → Contains (filter test xs) x
    → Contains xs x × (test x ≡ true)
Contains-filter_back test [] x at = absurd (Contains-none x at)
Contains-filter_back {X} test (y ∷ xs) x at = go (cases_Bool (test y)) (λ there. Contains-filter_back test xs x there)
  where
    go : (test y ≡ true) ⊎ (test y ≡ false) → (Contains (filter test xs) x → Contains xs x × (test x ≡ true))
        → Contains (y ∷ xs) x × (test x ≡ true)
    go (inl yes_) later =
        let In : List X → Type 0 = λ zs. Contains zs x
        in let Of : X → Type 0 = λ z. Contains (y ∷ xs) z × (test z ≡ true)
        in ⊎_elim (λ e. subst Of e (Contains-here y xs, yes_))
        (λ there. (Contains-there y x xs (later there).0, (later there).1))
        (Contains-cases y x (filter test xs) (subst In
        (cond-true (test y) (y ∷ filter test xs) (filter test xs) yes_) at))
    go (inr no_) later =
        let In : List X → Type 0 = λ zs. Contains zs x
        in let rest : Contains xs x × (test x ≡ true)
        = later (subst In (cond-false (test y) (y ∷ filter test xs) (filter test xs) no_) at)
        in (Contains-there y x xs rest.0, rest.1)

-- ---- all elements

pub All-from_contains : {X : Type 0} (P : X → Type 0) (xs : List X) → ((x : X) → Contains xs x → P x) → All P xs
All-from_contains P [] each = All-nil P
All-from_contains P (x ∷ xs) each =
    All-cons P x xs (each x (Contains-here x xs)) (All-from_contains P xs (λ y at. each y (Contains-there x y xs at)))

-- ---- places

-- a list is read at its places alone
pub slice_get-past : {X : Type 0} (xs : List X) (i : ℕ) → length xs ≤ i → slice_get xs i ≡ None
slice_get-past [] i past = refl
slice_get-past (x ∷ xs) zero past = absurd (omega (arith, past))
slice_get-past (x ∷ xs) (suc i) past = slice_get-past xs i (omega (arith, past))

pub slice_get-none : {X : Type 0} (xs : List X) (i : ℕ) → slice_get xs i ≡ None → length xs ≤ i
slice_get-none [] i none = omega arith
slice_get-none (x ∷ xs) zero none = absurd (cc none)
slice_get-none (x ∷ xs) (suc i) none = omega (arith, slice_get-none xs i none)

pub slice_get-below : {X : Type 0} (xs : List X) (i : ℕ) (x : X) → slice_get xs i ≡ Some x → i < length xs
slice_get-below [] i x some = absurd (cc some)
slice_get-below (y ∷ xs) zero x some = omega arith
slice_get-below (y ∷ xs) (suc i) x some = omega (arith, slice_get-below xs i x some)

-- what stands at a place is contained
pub slice_get-contains : {X : Type 0} (xs : List X) (i : ℕ) (x : X) → slice_get xs i ≡ Some x → Contains xs x
slice_get-contains [] i x some = absurd (cc some)
slice_get-contains (y ∷ xs) zero x some = (0, omega arith, cc some)
slice_get-contains (y ∷ xs) (suc i) x some = Contains-there y x xs (slice_get-contains xs i x some)
