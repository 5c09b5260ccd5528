-- Lists of tuples and of values, as the programs make them.
use Rattle.std.proofs.Common.{ℕ, ◌≡◌, ◌<◌, zero, suc, List, [], ◌∷◌, length, map, sym, refl, ap, arith}
use Rattle.std.proofs.Common.{slice_index, replicate, ◌≤◌, ◌-◌, ◌+◌, ◌++◌, ◌∙◌, flat_map, take, take_all}
use Rattle.std.proofs.Common.{drop, get_or, append-nil, append_assoc, add-one}
use Rattle.tv_concrete.specs.Tuples.{tuples_of}
use Rattle.tv_model.specs.Truth.{Assignment, put, put_all}

-- a list of zeros is read as 0 everywhere
pub get_or-replicate_zero : (n v : ℕ) → slice_index (replicate n 0) v ≡ 0
get_or-replicate_zero zero v = refl
get_or-replicate_zero (suc n) zero = refl
get_or-replicate_zero (suc n) (suc v) = get_or-replicate_zero n v

-- two variables get the first two individuals
pub put_all-two : (a : Assignment) (v w : ℕ) (us : List ℕ) → 2 ≤ length us
    → put_all a (v ∷ w ∷ []) us ≡ put (put a v (slice_index us 0)) w (slice_index us 1)
put_all-two a v w [] long = absurd (omega (arith, long))
put_all-two a v w (u ∷ []) long = absurd (omega (arith, long))
put_all-two a v w (u ∷ x ∷ us) long = refl

sub-suc_one : (n : ℕ) → suc n - 1 ≡ n
sub-suc_one n = omega arith

-- tuples of a length that isn't 0
pub tuples_of-pred : (xs : List ℕ) (n : ℕ) → 0 < n
    → flat_map (λ tuple. map (λ u. u ∷ tuple) xs) (tuples_of xs (n - 1)) ≡ tuples_of xs n
tuples_of-pred xs zero positive = absurd (omega (arith, positive))
tuples_of-pred xs (suc n) positive = rw (sub-suc_one n) refl

-- one more element gives one more part
pub flat_map-take_more : {X A : Type 0} (f : X → List A) (xs : List X) (i : ℕ) (d : X) → i < length xs
    → flat_map f (take (i + 1) xs) ≡ flat_map f (take i xs) ++ f (get_or xs i d)
flat_map-take_more f [] i d below = absurd (omega (arith, below))
flat_map-take_more f (x ∷ xs) zero d below = append-nil (f x)
flat_map-take_more {X} {A} f (x ∷ xs) (suc i) d below =
    let ih : flat_map f (take (suc i) xs) ≡ flat_map f (take i xs) ++ f (get_or xs i d) =
    rw (add-one i) at (flat_map-take_more f xs i d (omega (arith, below)))
    in rw (add-one (suc i)) (ap (λ ys. f x ++ ys) ih
    ∙ sym (append_assoc (f x) (flat_map f (take i xs)) (f (get_or xs i d))))

-- a list that isn't empty is its first element and the rest
pub first-and-rest : (xs : List ℕ) → 1 ≤ length xs → slice_index xs 0 ∷ take (length xs - 1) (drop 1 xs) ≡ xs
first-and-rest [] long = absurd (omega (arith, long))
first-and-rest (x ∷ xs) long = ap (λ ys. x ∷ ys) (rw (sub-suc_one (length xs)) (take_all (length xs) xs (omega arith)))
