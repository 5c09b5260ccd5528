-- Steps none of which is refused, and lists that grow.
use Rattle.std.proofs.Common.{◌≡◌, List, [], ◌∷◌, ◌++◌, Result, Ok, Err, refl}
use Rattle.std.specs.List.{AllZip}
use Rattle.tv_tree.specs.Steps.{◌>>=◌}

-- the first of two steps gave something, and the second went on from it
pub both_ok : {A B E : Type 0} (r : Result A E) (k : A → Result B E) (y : B) → (r >>= k) ≡ Ok y
    → (x : A) × (r ≡ Ok x) × (k x ≡ Ok y)
both_ok (Ok x) k y e = (x, refl, e)
both_ok (Err m) k y e = cc

pub zip_joined : {X Y : Type 0} (R : X → Y → Type 0) (xs us : List X) (ys vs : List Y) → AllZip R xs ys
    → AllZip R us vs → AllZip R (xs ++ us) (ys ++ vs)
zip_joined R [] us [] vs zip more = more
zip_joined R [] us (y ∷ ys) vs zip more = absurd zip
zip_joined R (x ∷ xs) us [] vs zip more = absurd zip
zip_joined R (x ∷ xs) us (y ∷ ys) vs zip more = (zip.0, zip_joined R xs us ys vs zip.1 more)

-- what is related through an element between
pub zip_through : {X Y Z : Type 0} (R : X → Y → Type 0) (S : Y → Z → Type 0) (T : X → Z → Type 0)
    → ((x : X) (y : Y) (z : Z) → R x y → S y z → T x z) → (xs : List X) (ys : List Y) (zs : List Z)
    → AllZip R xs ys → AllZip S ys zs → AllZip T xs zs
zip_through R S T f [] [] [] a b = tt
zip_through R S T f [] [] (z ∷ zs) a b = absurd b
zip_through R S T f [] (y ∷ ys) zs a b = absurd a
zip_through R S T f (x ∷ xs) [] zs a b = absurd a
zip_through R S T f (x ∷ xs) (y ∷ ys) [] a b = absurd b
zip_through R S T f (x ∷ xs) (y ∷ ys) (z ∷ zs) a b = (f x y z a.0 b.0, zip_through R S T f xs ys zs a.1 b.1)
