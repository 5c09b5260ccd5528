-- Lists of what is told, one element more, and answers that are handed on.
use Rattle.std.proofs.Common.{ℕ, ◌≡◌, ◌∙◌, ◌<◌, ◌+◌, List, [], ◌∷◌, ◌++◌, length, map, take, get_or, Ok, Err}
use Rattle.std.proofs.Common.{Result, refl}
use Rattle.std.proofs.Common.{sym, ap, subst, add-one, All, Contains}
use Rattle.std.specs.Prelude.{IfOk}
use Rattle.std.proofs.lemmas.List.{map-append}
use Rattle.std.proofs.lemmas.List.Elements.{All-append, All-cons, All-nil}
use Rattle.std.proofs.Math.Seq.{take-suc}

pub map-pushed : {X Y : Type 0} (f : X → Y) (xs new : List X) (x : X) (y : Y) (ys : List Y)
    → new ≡ xs ++ x ∷ [] → f x ≡ y → map f xs ≡ ys → map f new ≡ ys ++ y ∷ []
map-pushed f xs new x y ys pushed own is =
    ap (map f) pushed ∙ map-append f xs (x ∷ []) ∙ ap (λ zs. zs ++ f x ∷ []) is ∙ ap (λ z. ys ++ z ∷ []) own

pub all-pushed : {X : Type 0} (P : X → Type 0) (xs new : List X) (x : X) → new ≡ xs ++ x ∷ [] → All P xs → P x
    → All P new
all-pushed P xs new x pushed before own =
    subst (All P) (sym pushed) (All-append P xs (x ∷ []) before (All-cons P x [] own (All-nil P)))

pub item-there : {X : Type 0} (xs : List X) (i : ℕ) (x : X) → i < length xs → x ≡ get_or xs i x → Contains xs x
item-there xs i x lt is = (i, lt, sym is)

pub take-next : {X : Type 0} (xs : List X) (i : ℕ) (x : X) → i < length xs → x ≡ get_or xs i x
    → take (i + 1) xs ≡ take i xs ++ x ∷ []
take-next xs i x lt is = rw (add-one, take-suc xs i x lt, ← is) refl

-- what is answered is so in a weaker sense
pub ok-weaker : {X E : Type 0} (r : Result X E) (P Q : X → Type 0) → ((x : X) → P x → Q x) → IfOk r P → IfOk r Q
ok-weaker (Ok x) P Q f h = f x h
ok-weaker (Err e) P Q f h = tt
