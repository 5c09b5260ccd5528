-- Loops that put something at each element of a list.
use Rattle.std.proofs.Common.{ℕ, ◌≡◌, ◌<◌, ◌≤◌, ◌+◌, List, [], ◌∷◌, ◌++◌, length, map, get_or, take, sym, ap}
use Rattle.std.proofs.Common.{subst, ◌∙◌, Contains, arith}
use Rattle.std.specs.List.{AllZip}
use Rattle.std.proofs.lemmas.List.{take_all, take_more, length-map}
use Rattle.std.proofs.Math.ListN.{get_or-map}

zip-push : {X Y : Type 0} (R : X → Y → Type 0) (xs : List X) (ys : List Y) (x : X) (y : Y)
    → AllZip R xs ys → R x y → AllZip R (xs ++ x ∷ []) (ys ++ y ∷ [])
zip-push R [] [] x y all here = (here, tt)
zip-push R [] (v ∷ ys) x y all here = absurd all
zip-push R (u ∷ xs) [] x y all here = absurd all
zip-push R (u ∷ xs) (v ∷ ys) x y all here = (all.0, zip-push R xs ys x y all.1 here)

pub zip-more_at : {X Y : Type 0} (R : X → Y → Type 0) (xs : List X) (i : ℕ) (d : X) (y : Y) (old new : List Y)
    → i < length xs → AllZip R (take i xs) old → R (get_or xs i d) y → new ≡ old ++ y ∷ []
    → AllZip R (take (i + 1) xs) new
zip-more_at {X} {Y} R xs i d y old new below before here put =
    let Of : List Y → Type 0 = λ ys. AllZip R (take (i + 1) xs) ys
    in let From : List X → Type 0 = λ zs. AllZip R zs (old ++ y ∷ [])
    in subst Of (sym put) (subst From (sym (take_more xs i d below)) (zip-push R (take i xs) old (get_or xs i d) y before here))

pub zip-more : {X Y : Type 0} (R : X → Y → Type 0) (xs : List X) (i : ℕ) (x : X) (y : Y) (old new : List Y)
    → i < length xs → x ≡ get_or xs i x → AllZip R (take i xs) old → R x y → new ≡ old ++ y ∷ []
    → AllZip R (take (i + 1) xs) new
zip-more {X} R xs i x y old new below is before here put =
    let At : X → Type 0 = λ z. R z y in zip-more_at R xs i x y old new below before (subst At is here) put

pub AllZip-map : {X Y Z : Type 0} (R : Z → Y → Type 0) (f : X → Z) (xs : List X) (ys : List Y)
    → AllZip (λ x y. R (f x) y) xs ys → AllZip R (map f xs) ys
AllZip-map R f [] [] all = all
AllZip-map R f [] (y ∷ ys) all = absurd all
AllZip-map R f (x ∷ xs) [] all = absurd all
AllZip-map R f (x ∷ xs) (y ∷ ys) all = (all.0, AllZip-map R f xs ys all.1)

pub zip-all : {X Y Z : Type 0} (R : Z → Y → Type 0) (f : X → Z) (xs : List X) (i : ℕ) (ys : List Y)
    → length xs ≤ i → AllZip (λ x y. R (f x) y) (take i xs) ys → AllZip R (map f xs) ys
zip-all {X} R f xs i ys done before =
    let Of : List X → Type 0 = λ zs. AllZip (λ x y. R (f x) y) zs ys
    in AllZip-map R f xs ys (subst Of (take_all i xs done) before)

-- an element that was read stands in the mapped list
pub mapped-contains : {X Z : Type 0} (f : X → Z) (xs : List X) (i : ℕ) (x : X) → i < length xs → x ≡ get_or xs i x
    → Contains (map f xs) (f x)
mapped-contains f xs i x below is =
    let e : length (map f xs) ≡ length xs = length-map xs f
    in (i, omega (arith, e, below), get_or-map f xs i x ∙ ap f (sym is))
