-- Lists to which what comes of elements is put.
use Rattle.std.proofs.Common.{ℕ, ◌≡◌, ◌∙◌, ◌<◌, ◌+◌, List, [], ◌∷◌, ◌++◌, length, take, refl, sym, ap, subst}
use Rattle.std.proofs.Common.{append_assoc, arith, get_or, add-one, All, Contains}
use Rattle.std.proofs.lemmas.List.Elements.{All-nil, All-cons, All-head, All-append}
use Rattle.std.proofs.lemmas.List.{append-nil, nil_from_length}
use Rattle.std.proofs.Math.Seq.{take-suc}
use Rattle.tv_step_laws.specs.Parts.{AreFrom}
use Rattle.tv_step_laws.proofs.From.{from-append}
use Rattle.tv_step.specs.Steps.{Adds}

pub from-one : {X Y : Type 0} (R : X → List Y → Type 0) (x : X) (own : List Y) → R x own
    → AreFrom R (x ∷ []) own
from-one R x own made = (own, [], made, refl, sym (append-nil own))

-- what is made of an element is also made of it in a weaker sense
pub from-weaker : {X Y : Type 0} (R Q : X → List Y → Type 0) → ((x : X) (ys : List Y) → R x ys → Q x ys)
    → (xs : List X) (ys : List Y)
    → AreFrom R xs ys → AreFrom Q xs ys
from-weaker R Q weaker [] ys are = are
from-weaker R Q weaker (x ∷ xs) ys (own, rest, made, later, is) =
    (own, rest, weaker x own made, from-weaker R Q weaker xs rest later, is)

pub each-unit : {X : Type 0} (xs : List X) → All (λ x. Unit {0}) xs
each-unit xs k d lt = tt

-- nothing is put
pub adds-none : {X Y : Type 0} (R : X → List Y → Type 0) (ys : List Y) → Adds (AreFrom R) [] ys ys
adds-none R ys = ([], refl, sym (append-nil ys))

-- what comes of one more element is put
pub adds-more : {X Y : Type 0} (R : X → List Y → Type 0) (xs : List X) (x : X) (ys zs ws : List Y)
    → Adds (AreFrom R) xs ys zs
    → Adds R x zs ws → Adds (AreFrom R) (xs ++ x ∷ []) ys ws
adds-more R xs x ys zs ws (one, from, is) (own, made, same) = (
  one ++ own,
  from-append R xs (x ∷ []) one own from (from-one R x own made),
  same ∙ ap (λ us. us ++ own) is ∙ append_assoc ys one own,
)

-- what comes of the only element is put, where nothing was there
pub adds-only : {X Y : Type 0} (R : X → List Y → Type 0) (xs : List X) (x : X) (ys zs ws : List Y)
    → xs ≡ x ∷ [] → length ys ≡ 0 → zs ≡ [] → Adds R x zs ws → Adds (AreFrom R) xs ys ws
adds-only R xs x ys zs ws one none empty (own, made, is) = (
  own,
  subst (λ us. AreFrom R us own) (sym one) (from-one R x own made),
  is ∙ ap (λ us. us ++ own) (empty ∙ sym (nil_from_length ys none)),
)

-- a list of one element that is handed on, where nothing was there
pub adds-itself : {X : Type 0} (R : X → List X → Type 0) (xs : List X) (x : X) (ys : List X) → xs ≡ x ∷ []
    → length ys ≡ 0 → R x (x ∷ []) → Adds (AreFrom R) xs ys xs
adds-itself R xs x ys one none made = (
  xs,
  subst (λ us. AreFrom R us us) (sym one) (from-one R x (x ∷ []) made),
  ap (λ us. us ++ xs) (sym (nil_from_length ys none)),
)

-- a list of one element
pub only-one : {X : Type 0} (xs : List X) (x : X) → length xs ≡ 1 → x ≡ get_or xs 0 x → xs ≡ x ∷ []
only-one [] x one is = absurd (omega (arith, one))
only-one (y ∷ []) x one is = ap (λ z. z ∷ []) (sym is)
only-one (y ∷ z ∷ zs) x one is = absurd (omega (arith, one))

-- what holds of all holds of the only one, and the other way round
pub of-only : {X : Type 0} (P : X → Type 0) (xs : List X) (x : X) → xs ≡ x ∷ [] → All P xs → P x
of-only P xs x one all = All-head P x [] (subst (All P) one all)

pub all-only : {X : Type 0} (P : X → Type 0) (xs : List X) (x : X) → xs ≡ x ∷ [] → P x → All P xs
all-only P xs x one own = subst (All P) (sym one) (All-cons P x [] own (All-nil P))

-- what holds of one element more
pub all-more : {X : Type 0} (P : X → Type 0) (xs : List X) (x : X) → All P xs → P x → All P (xs ++ x ∷ [])
all-more P xs x before own = All-append P xs (x ∷ []) before (All-cons P x [] own (All-nil P))

pub take-next : {X : Type 0} (xs : List X) (i : ℕ) (x : X) → i < length xs → x ≡ get_or xs i x
    → take (i + 1) xs ≡ take i xs ++ x ∷ []
take-next xs i x lt is = rw (add-one, take-suc xs i x lt, ← is) refl

-- what comes of the next of a list's elements is put
pub adds-next : {X Y : Type 0} (R : X → List Y → Type 0) (xs : List X) (i : ℕ) (x : X) (ys zs ws : List Y)
    → i < length xs
    → x ≡ get_or xs i x → Adds (AreFrom R) (take i xs) ys zs → Adds R x zs ws
    → Adds (AreFrom R) (take (i + 1) xs) ys ws
adds-next R xs i x ys zs ws lt is before made =
    rw (add-one, take-suc xs i x lt, ← is) (adds-more R (take i xs) x ys zs ws before made)

-- elements of which each makes itself alone
pub from-itself : {X : Type 0} (R : X → List X → Type 0) (xs : List X) (i : ℕ) (x : X) → i < length xs
    → x ≡ get_or xs i x → AreFrom R (take i xs) (take i xs) → R x (x ∷ [])
    → AreFrom R (take (i + 1) xs) (take (i + 1) xs)
from-itself R xs i x lt is before own =
    rw (add-one, take-suc xs i x lt, ← is)
    (from-append R (take i xs) (x ∷ []) (take i xs) (x ∷ []) before (from-one R x (x ∷ []) own))

pub item-there : {X : Type 0} (xs : List X) (i : ℕ) (x : X) → i < length xs → x ≡ get_or xs i x
    → Contains xs x
item-there xs i x lt is = (i, lt, sym is)
