-- Lists that come of lists, element by element.
use Rattle.std.proofs.Common.{◌≡◌, ◌∙◌, List, [], ◌∷◌, ◌++◌, ⊎_elim, refl, sym, ap, subst, All, Contains}
use Rattle.std.proofs.Common.{append_assoc}
use Rattle.std.specs.List.{AllZip}
use Rattle.std.proofs.lemmas.List.Elements.{All-nil, All-append, All-cons, All-head, All-tail}
use Rattle.std.proofs.lemmas.List.Elements.{Contains-append_left, Contains-append_right}
use Rattle.std.proofs.lemmas.List.Elements.{Contains-append_cases}
use Rattle.tv_model.proofs.Lists.{Contains-here, Contains-there, Contains-none, Contains-cases}
use Rattle.tv_step_laws.specs.Parts.{AreFrom}

-- ---- what an element makes

-- what x makes is a part of the list
pub record HasPart {X Y : Type 0} (R : X → List Y → Type 0) (ys : List Y) (x : X) : Type 0 where
  pub own : List Y
  pub made : R x own
  pub within : (y : Y) → Contains own y → Contains ys y

pub from-part : {X Y : Type 0} (R : X → List Y → Type 0) (xs : List X) (ys : List Y) → AreFrom R xs ys
    → (x : X) → Contains xs x → HasPart R ys x
from-part R [] ys are x at = absurd (Contains-none x at)
from-part {X} {Y} R (z ∷ xs) ys (own, rest, made, later, is) x at =
    let In : Y → List Y → Type 0 = λ y zs. Contains zs y
    in ⊎_elim
    (λ here. let Makes : X → Type 0 = λ w. R w own
    in record {
      own = own;
      made = subst Makes here made;
      within = λ y in_own. subst (In y) (sym is) (Contains-append_left own rest y in_own);
    })
    (λ there. let part : HasPart R rest x = from-part R xs rest later x there
    in record {
      own = part.own;
      made = part.made;
      within = λ y in_own. subst (In y) (sym is) (Contains-append_right own rest y (part.within y in_own));
    })
    (Contains-cases z x xs at)

-- what two lists make, one after the other
pub from-append : {X Y : Type 0} (R : X → List Y → Type 0) (xs zs : List X) (ys ws : List Y) → AreFrom R xs ys
    → AreFrom R zs ws → AreFrom R (xs ++ zs) (ys ++ ws)
from-append R [] zs ys ws a b = subst (AreFrom R zs) (ap (λ us. us ++ ws) (sym a)) b
from-append R (x ∷ xs) zs ys ws (own, rest, made, later, is) b = (
  own,
  rest ++ ws,
  made,
  from-append R xs zs rest ws later b,
  ap (λ us. us ++ ws) is ∙ append_assoc own rest ws,
)

-- P holds of one of these
abbrev pub Some-of : {X : Type 0} → (X → Type 0) → List X → Type 0
Some-of {X} P xs = (x : X) × Contains xs x × P x

-- where P holds of one, and all of which it holds make one of which Q holds, there is such a one
pub some-from : {X Y : Type 0} (P : X → Type 0) (Q : Y → Type 0) (R : X → List Y → Type 0)
    → ((x : X) (own : List Y) → R x own → P x → Some-of Q own) → (xs : List X) (ys : List Y) → AreFrom R xs ys
    → Some-of P xs → Some-of Q ys
some-from P Q R each xs ys are (x, at, holds) =
    let part : HasPart R ys x = from-part R xs ys are x at
    in let found : Some-of Q part.own = each x part.own part.made holds
    in (found.0, part.within found.0 found.1, found.2)

-- each element is made of one of the others
pub record IsMade {X Y : Type 0} (R : X → List Y → Type 0) (xs : List X) (y : Y) : Type 0 where
  pub from : X
  pub there : Contains xs from
  pub own : List Y
  pub made : R from own
  pub at : Contains own y

pub from-back : {X Y : Type 0} (R : X → List Y → Type 0) (xs : List X) (ys : List Y) → AreFrom R xs ys
    → (y : Y) → Contains ys y → IsMade R xs y
from-back {X} {Y} R [] ys are y at =
    let In : List Y → Type 0 = λ zs. Contains zs y in absurd (Contains-none y (subst In are at))
from-back {X} {Y} R (x ∷ xs) ys (own, rest, made, later, is) y at =
    let In : List Y → Type 0 = λ zs. Contains zs y
    in ⊎_elim
    (λ here. record { from = x; there = Contains-here x xs; own = own; made = made; at = here })
    (λ there. let part : IsMade R xs y = from-back R xs rest later y there
    in record {
      from = part.from;
      there = Contains-there x part.from xs part.there;
      own = part.own;
      made = part.made;
      at = part.at;
    })
    (Contains-append_cases own rest y (subst In is at))

-- what holds of all that each element makes holds of all
pub from-all : {X Y : Type 0} (R : X → List Y → Type 0) (D : X → Type 0) (E : Y → Type 0)
    → ((x : X) (own : List Y) → D x → R x own → All E own) → (xs : List X) (ys : List Y) → AreFrom R xs ys
    → All D xs → All E ys
from-all R D E each [] ys are all = subst (All E) (sym are) (All-nil E)
from-all R D E each (x ∷ xs) ys (own, rest, made, later, is) all =
    subst (All E) (sym is)
    (All-append E own rest (each x own (All-head D x xs all) made)
    (from-all R D E each xs rest later (All-tail D x xs all)))

-- where each element makes one list, so do all
pub from-once : {X Y : Type 0} (R : X → List Y → Type 0) (xs : List X)
    → ((x : X) → Contains xs x → (ys zs : List Y) → R x ys → R x zs → ys ≡ zs)
    → (ys zs : List Y) → AreFrom R xs ys → AreFrom R xs zs → ys ≡ zs
from-once R [] once ys zs a b = a ∙ sym b
from-once R (x ∷ xs) once ys zs (own, rest, made, later, is) (other, more, also, after, same) =
    let first : own ≡ other = once x (Contains-here x xs) own other made also
    in let others : rest ≡ more = from-once R xs
    (λ z at. once z (Contains-there x z xs at)) rest more later after
    in is ∙ ap (λ us. us ++ rest) first ∙ ap (λ us. other ++ us) others ∙ sym same

-- ---- pairs, place by place

pub zip-back : {X Y : Type 0} (R : X → Y → Type 0) (xs : List X) (ys : List Y) → AllZip R xs ys
    → (y : Y) → Contains ys y → (x : X) × Contains xs x × R x y
zip-back R [] [] zip y at = absurd (Contains-none y at)
zip-back R [] (z ∷ ys) zip y at = absurd zip
zip-back R (x ∷ xs) [] zip y at = absurd zip
zip-back {X} {Y} R (x ∷ xs) (z ∷ ys) zip y at =
    ⊎_elim
    (λ here. let Has : Y → Type 0 = λ w. R x w in (x, Contains-here x xs, subst Has here zip.0))
    (λ there. let found = zip-back R xs ys zip.1 y there in
    (found.0, Contains-there x found.0 xs found.1, found.2))
    (Contains-cases z y ys at)

pub zip-all : {X Y : Type 0} (R : X → Y → Type 0) (E : Y → Type 0) → ((x : X) (y : Y) → R x y → E y)
    → (xs : List X) (ys : List Y) → AllZip R xs ys → All E ys
zip-all R E each [] [] zip = All-nil E
zip-all R E each [] (y ∷ ys) zip = absurd zip
zip-all R E each (x ∷ xs) [] zip = absurd zip
zip-all R E each (x ∷ xs) (y ∷ ys) zip =
    All-cons E y ys (each x y zip.0) (zip-all R E each xs ys zip.1)

-- where the first list has one partner for each of the second, it is one
pub zip-once : {X Y : Type 0} (R : X → Y → Type 0) → ((x z : X) (y : Y) → R x y → R z y → x ≡ z)
    → (xs zs : List X) (ys : List Y) → AllZip R xs ys → AllZip R zs ys → xs ≡ zs
zip-once R once [] [] ys a b = refl
zip-once R once [] (z ∷ zs) [] a b = absurd b
zip-once R once [] (z ∷ zs) (y ∷ ys) a b = absurd a
zip-once R once (x ∷ xs) [] [] a b = absurd a
zip-once R once (x ∷ xs) [] (y ∷ ys) a b = absurd b
zip-once R once (x ∷ xs) (z ∷ zs) [] a b = absurd a
zip-once {X} R once (x ∷ xs) (z ∷ zs) (y ∷ ys) a b =
    let first : x ≡ z = once x z y a.0 b.0
    in let rest : xs ≡ zs = zip-once R once xs zs ys a.1 b.1
    in ap (λ (w : X). w ∷ xs) first ∙ ap (λ (ws : List X). z ∷ ws) rest
