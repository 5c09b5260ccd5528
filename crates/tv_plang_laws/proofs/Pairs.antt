-- Lists whose elements differ.
use Rattle.std.proofs.Common.{ℕ, ◌≡◌, ◌≢◌, ◌≤◌, ◌<◌, ◌+◌, ◌∙◌, zero, suc, List, [], ◌∷◌, ◌++◌, length, map}
use Rattle.std.proofs.Common.{true, not, eqb, ⊎_elim, sym, ap, subst, arith, All, AllPairs, Contains, eq-eqb}
use Rattle.std.proofs.Common.{ne_eqb}
use Rattle.std.specs.List.{flat_map, position_or_len, range_with_len}
use Rattle.std.specs.Prelude.{◌==◌}
use Rattle.std.proofs.lemmas.Bool.{cases_eq, cond-true, cond-false}
use Rattle.std.proofs.lemmas.List.Elements.{All-append, All-contains, All-map, All-weaker}
use Rattle.std.proofs.lemmas.List.Elements.{Contains-append_cases, Contains-append_left}
use Rattle.std.proofs.lemmas.List.Elements.{Contains-append_right, filter_passes}
use Rattle.std.proofs.lemmas.List.Kept.{AllPairs-cons, AllPairs-filter}
use Rattle.tv_model.specs.Valid.{first_occurrences, without}
use Rattle.tv_model.proofs.Lists.{All-from_contains, Contains-cases, Contains-filter_back}
use Rattle.tv_model.proofs.Lists.{Contains-here, Contains-none, Contains-there}

pub pairs-head : {X : Type 0} (R : X → X → Type 0) (x : X) (xs : List X) → AllPairs R (x ∷ xs) → All (R x) xs
pairs-head R x xs pairs = λ k d below. pairs 0 (suc k) d (omega arith) (omega (arith, below))

pub pairs-tail : {X : Type 0} (R : X → X → Type 0) (x : X) (xs : List X) → AllPairs R (x ∷ xs) → AllPairs R xs
pairs-tail R x xs pairs = λ i j d lt below. pairs (suc i) (suc j) d (omega (arith, lt)) (omega (arith, below))

pub pairs-nil : {X : Type 0} (R : X → X → Type 0) → AllPairs R []
pairs-nil R = λ i j d lt below. absurd (omega (arith, below))

pub pairs-append : {X : Type 0} (R : X → X → Type 0) (xs ys : List X) → AllPairs R xs → AllPairs R ys
    → ((x y : X) → Contains xs x → Contains ys y → R x y) → AllPairs R (xs ++ ys)
pairs-append R [] ys first second across = second
pairs-append R (x ∷ xs) ys first second across =
    AllPairs-cons R x (xs ++ ys)
    (All-append (R x) xs ys (pairs-head R x xs first) (All-from_contains (R x) ys (λ y at. across x y (Contains-here x xs) at)))
    (pairs-append R xs ys (pairs-tail R x xs first) second (λ z y at. across z y (Contains-there x z xs at)))

pub pairs-front : {X : Type 0} (R : X → X → Type 0) (xs ys : List X) → AllPairs R (xs ++ ys) → AllPairs R xs
pairs-front R [] ys pairs = pairs-nil R
pairs-front R (x ∷ xs) ys pairs =
    AllPairs-cons R x xs
    (All-from_contains (R x) xs
    (λ y at. All-contains (R x) (xs ++ ys) y (pairs-head R x (xs ++ ys) pairs) (Contains-append_left xs ys y at)))
    (pairs-front R xs ys (pairs-tail R x (xs ++ ys) pairs))

pub pairs-behind : {X : Type 0} (R : X → X → Type 0) (xs ys : List X) → AllPairs R (xs ++ ys) → AllPairs R ys
pairs-behind R [] ys pairs = pairs
pairs-behind R (x ∷ xs) ys pairs = pairs-behind R xs ys (pairs-tail R x (xs ++ ys) pairs)

pub pairs-across : {X : Type 0} (R : X → X → Type 0) (xs ys : List X) → AllPairs R (xs ++ ys) → (x y : X) → Contains xs x → Contains ys y → R x y
pairs-across R [] ys pairs x y at_x at_y = absurd (Contains-none x at_x)
pairs-across {X} R (z ∷ xs) ys pairs x y at_x at_y =
    ⊎_elim
    (λ e. let Of : X → Type 0 = λ w. R w y
    in subst Of e (All-contains (R z) (xs ++ ys) y (pairs-head R z (xs ++ ys) pairs) (Contains-append_right xs ys y at_y)))
    (λ there. pairs-across R xs ys (pairs-tail R z (xs ++ ys) pairs) x y there at_y)
    (Contains-cases z x xs at_x)

pub pairs-map : {X Y : Type 0} (R : Y → Y → Type 0) (f : X → Y) (xs : List X) → AllPairs (λ x y. R (f x) (f y)) xs → AllPairs R (map f xs)
pairs-map R f [] pairs = pairs-nil R
pairs-map {X} R f (x ∷ xs) pairs =
    let Of : X → X → Type 0 = λ y z. R (f y) (f z)
    in AllPairs-cons R (f x) (map f xs) (All-map (R (f x)) f xs (pairs-head Of x xs pairs))
    (pairs-map R f xs (pairs-tail Of x xs pairs))

pub pairs-weaker : {X : Type 0} (R S : X → X → Type 0) (xs : List X) → ((x y : X) → Contains xs x → Contains xs y → R x y → S x y)
    → AllPairs R xs → AllPairs S xs
pairs-weaker R S [] weaker pairs = pairs-nil S
pairs-weaker {X} R S (x ∷ xs) weaker pairs =
    AllPairs-cons S x xs
    (All-from_contains (S x) xs (λ y at. weaker x y (Contains-here x xs) (Contains-there x y xs at) (related y at)))
    (pairs-weaker R S xs (λ y z at_y at_z. weaker y z (Contains-there x y xs at_y) (Contains-there x z xs at_z)) (pairs-tail R x xs pairs))
  where
    related : (y : X) → Contains xs y → R x y
    related y at = subst (R x) at.2 (pairs-head R x xs pairs at.0 y at.1)

-- the elements of lists that differ from those of other lists, put together
pub pairs-flat_map : {X Y : Type 0} (R : Y → Y → Type 0) (S : X → X → Type 0) (f : X → List Y) (xs : List X) → AllPairs S xs
    → ((x : X) → Contains xs x → AllPairs R (f x))
    → ((x z : X) → Contains xs x → Contains xs z → S x z → (y w : Y) → Contains (f x) y → Contains (f z) w → R y w)
    → AllPairs R (flat_map f xs)
pairs-flat_map R S f [] pairs each across = pairs-nil R
pairs-flat_map {X} {Y} R S f (x ∷ xs) pairs each across =
    pairs-append R (f x) (flat_map f xs) (each x (Contains-here x xs))
    (pairs-flat_map R S f xs (pairs-tail S x xs pairs) (λ z at. each z (Contains-there x z xs at))
    (λ z w at_z at_w. across z w (Contains-there x z xs at_z) (Contains-there x w xs at_w)))
    (λ y w at_y at_w. later xs (λ z at. Contains-there x z xs at) (pairs-head S x xs pairs) y w at_y at_w)
  where
    later : (zs : List X) → ((z : X) → Contains zs z → Contains (x ∷ xs) z) → All (S x) zs → (y w : Y) → Contains (f x) y
        → Contains (flat_map f zs) w → R y w
    later [] within related y w at_y at_w = absurd (Contains-none w at_w)
    later (z ∷ zs) within related y w at_y at_w =
        ⊎_elim
        (λ here. across x z (Contains-here x xs) (within z (Contains-here z zs)) (related 0 z (omega arith)) y w at_y here)
        (λ there. later zs (λ v at. within v (Contains-there z v zs at)) (λ k d below. related (suc k) d (omega (arith, below))) y w at_y there)
        (Contains-append_cases (f z) (flat_map f zs) w at_w)

-- numbers in order differ
pub range-differ : (a n : ℕ) → AllPairs ◌≢◌ (range_with_len a n)
range-differ a zero = pairs-nil ◌≢◌
range-differ a (suc n) =
    AllPairs-cons ◌≢◌ a (range_with_len (a + 1) n)
    (All-from_contains (λ k. a ≢ k) (range_with_len (a + 1) n) (λ k at e. omega (arith, e, range-from (a + 1) n k at)))
    (range-differ (a + 1) n)
  where
    range-from : (b m k : ℕ) → Contains (range_with_len b m) k → b ≤ k
    range-from b zero k at = absurd (Contains-none k at)
    range-from b (suc m) k at =
        ⊎_elim (λ e. omega (arith, e)) (λ there. omega (arith, range-from (b + 1) m k there))
        (Contains-cases b k (range_with_len (b + 1) m) at)

-- ---- first occurrences

passes : (v w : ℕ) → not (eqb w v) ≡ true → w ≢ v
passes v w pass e = absurd (cc (sym pass ∙ ap not (eq-eqb w v e)))

pub occurrences-differ : (xs : List ℕ) → AllPairs ◌≢◌ (first_occurrences xs)
occurrences-differ [] = pairs-nil ◌≢◌
occurrences-differ (v ∷ xs) =
    AllPairs-cons ◌≢◌ v (without v (first_occurrences xs))
    (All-weaker (λ w. not (eqb w v) ≡ true) (λ w. v ≢ w) (λ w pass e. passes v w pass (sym e)) (without v (first_occurrences xs))
    (filter_passes (λ w. not (eqb w v)) (first_occurrences xs)))
    (AllPairs-filter ◌≢◌ (λ w. not (eqb w v)) (first_occurrences xs) (occurrences-differ xs))

pub occurrences-among : (xs : List ℕ) (x : ℕ) → Contains (first_occurrences xs) x → Contains xs x
occurrences-among [] x at = at
occurrences-among (v ∷ xs) x at =
    ⊎_elim
    (λ e. let Of : ℕ → Type 0 = λ w. Contains (v ∷ xs) w in subst Of e (Contains-here v xs))
    (λ there. Contains-there v x xs
    (occurrences-among xs x (Contains-filter_back (λ w. not (eqb w v)) (first_occurrences xs) x there).0))
    (Contains-cases v x (without v (first_occurrences xs)) at)

-- the place of an element is below the length
pub place-below : (k : ℕ) (xs : List ℕ) → Contains xs k → position_or_len (λ m. m == k) xs < length xs
place-below k [] at = absurd (Contains-none k at)
place-below k (x ∷ xs) at =
    ⊎_elim
    (λ e. let here : position_or_len (λ m. m == k) (x ∷ xs) ≡ 0 = cond-false (not (eqb x k)) (1 + position_or_len (λ m. m == k) xs) 0 (ap not (eq-eqb x k e))
    in omega (arith, here))
    (λ ne. let later : position_or_len (λ m. m == k) (x ∷ xs) ≡ 1 + position_or_len (λ m. m == k) xs
    = cond-true (not (eqb x k)) (1 + position_or_len (λ m. m == k) xs) 0 (ap not (ne_eqb x k ne))
    in ⊎_elim (λ e. absurd (ne e)) (λ there. omega (arith, later, place-below k xs there)) (Contains-cases x k xs at))
    (cases_eq x k)
