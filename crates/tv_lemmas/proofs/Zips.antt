-- Two lists whose elements are related place by place.
use Rattle.std.proofs.Common.{ℕ, zero, suc, ◌≡◌, List, [], ◌∷◌, ◌++◌, Some, slice_get, refl, ap, ◌∙◌, subst}
use Rattle.std.proofs.Common.{Contains, length}
use Rattle.std.specs.List.{AllZip}
use Rattle.tv_lemmas.proofs.Lists.{found_at}
use Rattle.std.proofs.lemmas.Option.{slice_get_within, get_or_from_slice_get}

pub zip_push : {X Y : Type 0} (R : X → Y → Type 0) (xs : List X) (ys : List Y) (x : X) (y : Y) → AllZip R xs ys → R x y
    → AllZip R (xs ++ x ∷ []) (ys ++ y ∷ [])
zip_push R [] [] x y zip one = (one, tt)
zip_push R [] (z ∷ ys) x y zip one = absurd zip
zip_push R (z ∷ xs) [] x y zip one = absurd zip
zip_push R (z ∷ xs) (w ∷ ys) x y zip one = (zip.0, zip_push R xs ys x y zip.1 one)

pub zip_weaker : {X Y : Type 0} (R S : X → Y → Type 0) → ((x : X) (y : Y) → R x y → S x y) → (xs : List X) (ys : List Y)
    → AllZip R xs ys → AllZip S xs ys
zip_weaker R S f [] [] zip = tt
zip_weaker R S f [] (y ∷ ys) zip = absurd zip
zip_weaker R S f (x ∷ xs) [] zip = absurd zip
zip_weaker R S f (x ∷ xs) (y ∷ ys) zip = (f x y zip.0, zip_weaker R S f xs ys zip.1)

pub zip_length : {X Y : Type 0} (R : X → Y → Type 0) (xs : List X) (ys : List Y) → AllZip R xs ys → length xs ≡ length ys
zip_length R [] [] zip = refl
zip_length R [] (y ∷ ys) zip = absurd zip
zip_length R (x ∷ xs) [] zip = absurd zip
zip_length R (x ∷ xs) (y ∷ ys) zip = ap suc (zip_length R xs ys zip.1)

-- the partner of the element at a place
pub zip_partner : {X Y : Type 0} (R : X → Y → Type 0) (xs : List X) (ys : List Y) → AllZip R xs ys → (k : ℕ) (x : X)
    → slice_get xs k ≡ Some x → (y : Y) × (slice_get ys k ≡ Some y) × R x y
zip_partner R [] ys zip k x at = absurd (cc at)
zip_partner R (z ∷ xs) [] zip k x at = absurd zip
zip_partner {X} R (z ∷ xs) (y ∷ ys) zip zero x at =
    let same : z ≡ x = cc at
    in let At : X → Type 0 = λ w. R w y
    in (y, refl, subst At same zip.0)
zip_partner R (z ∷ xs) (y ∷ ys) zip (suc k) x at = zip_partner R xs ys zip.1 k x at

-- two elements at one place
pub zip_at : {X Y : Type 0} (R : X → Y → Type 0) (xs : List X) (ys : List Y) → AllZip R xs ys → (k : ℕ) (x : X) (y : Y)
    → slice_get xs k ≡ Some x → slice_get ys k ≡ Some y → R x y
zip_at {X} {Y} R xs ys zip k x y there its =
    let partner = zip_partner R xs ys zip k x there
    in let same : partner.0 ≡ y = cc (partner.1, its)
    in let At : Y → Type 0 = λ w. R x w
    in subst At same partner.2

-- an element of the first list has a partner in the second
pub zip_found : {X Y : Type 0} (R : X → Y → Type 0) (xs : List X) (ys : List Y) → AllZip R xs ys
    → (x : X) → Contains xs x → (y : Y) × Contains ys y × R x y
zip_found R xs ys zip x there =
    let at = found_at xs x there
    in let partner = zip_partner R xs ys zip at.0 x at.1
    in (
      partner.0,
      (at.0, slice_get_within ys at.0 partner.0 partner.1, get_or_from_slice_get ys at.0 partner.0 partner.0 partner.1),
      partner.2,
    )

-- what has one partner at most has one list of partners
pub same_partners : {X Y : Type 0} (R : X → Y → Type 0) → ((x : X) (y z : Y) → R x y → R x z → y ≡ z)
    → (xs : List X) (ys zs : List Y) → AllZip R xs ys → AllZip R xs zs → ys ≡ zs
same_partners R one [] [] [] a b = refl
same_partners R one [] [] (z ∷ zs) a b = absurd b
same_partners R one [] (y ∷ ys) zs a b = absurd a
same_partners R one (x ∷ xs) [] zs a b = absurd a
same_partners R one (x ∷ xs) (y ∷ ys) [] a b = absurd b
same_partners R one (x ∷ xs) (y ∷ ys) (z ∷ zs) a b =
    ap (λ w. w ∷ ys) (one x y z a.0 b.0) ∙ ap (λ ws. z ∷ ws) (same_partners R one xs ys zs a.1 b.1)
