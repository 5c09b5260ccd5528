-- Loops that append what a function gives of each element.
use Rattle.std.proofs.Common.{◌≡◌, ℕ, zero, suc, ◌+◌, ◌≤◌, List, [], ◌∷◌, ◌++◌, Some, length, drop}
use Rattle.std.proofs.Common.{refl, sym, ap, ◌∙◌, append_assoc, arith}
use Rattle.std.specs.Prelude.{slice_get}
use Rattle.std.specs.List.{flat_map, zip}
use Rattle.std.proofs.lemmas.List.{drop_all, append-nil}
use Rattle.tv_lemmas.proofs.Lists.{drop_there}

-- one turn of a loop over a list
pub one_turn : {X Y : Type 0} (f : X → List Y) (xs : List X) (i : ℕ) (x : X) (out total : List Y) → slice_get xs i ≡ Some x
    → out ++ flat_map f (drop i xs) ≡ total → (out ++ f x) ++ flat_map f (drop (i + 1) xs) ≡ total
one_turn f xs i x out total at so_far =
    append_assoc out (f x) (flat_map f (drop (i + 1) xs)) ∙ ap (λ ys. out ++ flat_map f ys) (sym (drop_there xs i x at)) ∙ so_far

-- its end
pub no_turn : {X Y : Type 0} (f : X → List Y) (xs : List X) (i : ℕ) (out total : List Y) → length xs ≤ i
    → out ++ flat_map f (drop i xs) ≡ total → out ≡ total
no_turn f xs i out total le so_far = sym (ap (λ ys. out ++ flat_map f ys) (drop_all i xs le) ∙ append-nil out) ∙ so_far

pub zipped_at : {X Y : Type 0} (xs : List X) (ys : List Y) (i : ℕ) (x : X) (y : Y) → slice_get xs i ≡ Some x → slice_get ys i ≡ Some y
    → slice_get (zip xs ys) i ≡ Some (x, y)
zipped_at [] ys i x y at_x at_y = absurd cc
zipped_at (a ∷ xs) [] i x y at_x at_y = absurd cc
zipped_at (a ∷ xs) (b ∷ ys) zero x y at_x at_y = let left : a ≡ x = cc in let right : b ≡ y = cc in rw (left, right) refl
zipped_at (a ∷ xs) (b ∷ ys) (suc i) x y at_x at_y = zipped_at xs ys i x y at_x at_y

pub zipped_length : {X Y : Type 0} (xs : List X) (ys : List Y) → length (zip xs ys) ≤ length xs
zipped_length [] ys = omega arith
zipped_length (x ∷ xs) [] = omega arith
zipped_length (x ∷ xs) (y ∷ ys) = let h = zipped_length xs ys in omega (arith, h)
