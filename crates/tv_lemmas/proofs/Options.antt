-- What options and results say of their values.
use Rattle.std.proofs.Common.{◌≡◌, true, Option, Some, None, Result, Ok, Err, refl, sym, ap, subst, IfSome}
use Rattle.std.proofs.Common.{IfErr}
use Rattle.std.proofs.lemmas.Bool.{false≢true}
use Rattle.std.proofs.lemmas.Option.{same_Some}
use Rattle.std.specs.Prelude.{IsErrAnd, OnOk}
use Rattle.std.specs.Option.{is_some, option_map, option_or}

pub some_value : {X : Type 0} (o : Option X) → is_some o ≡ true → (x : X) × (o ≡ Some x)
some_value None h = absurd (false≢true h)
some_value (Some x) h = (x, refl)

pub is_some-map : {X Y : Type 0} (f : X → Y) (o : Option X) → is_some o ≡ is_some (option_map f o)
is_some-map f None = refl
is_some-map f (Some x) = refl

pub IfSome-value : {X : Type 0} (o : Option X) (P : X → Type 0) (x : X) → IfSome o P → o ≡ Some x → P x
IfSome-value None P x p h = absurd (cc)
IfSome-value (Some y) P x p h = subst P (same_Some y x h) p

pub IfSome-any : {X : Type 0} (o : Option X) → IfSome o (λ x. Unit {0})
IfSome-any None = tt
IfSome-any (Some x) = tt

pub or_none : {X : Type 0} (o : Option X) → option_or o None ≡ o
or_none None = refl
or_none (Some x) = refl

pub IfErr-weaker : {X E : Type 0} (r : Result X E) (P Q : E → Type 0) → ((e : E) → P e → Q e) → IfErr r P → IfErr r Q
IfErr-weaker (Ok x) P Q f h = tt
IfErr-weaker (Err e) P Q f h = f e h

-- an error that is handed on
pub IfErr-same : {X E : Type 0} (P : E → Type 0) (r : Result X E) (e : E) → IsErrAnd r (λ d. d ≡ e) → P e → IfErr r P
IfErr-same P (Ok x) e same h = tt
IfErr-same P (Err d) e same h = subst P (sym same) h

pub OnOk-weaker : {X E : Type 0} (r : Result X E) (P Q : Type 0) → (P → Q) → OnOk r P → OnOk r Q
OnOk-weaker (Ok x) P Q f h = f h
OnOk-weaker (Err e) P Q f h = tt

pub OnOk-any : {X E : Type 0} (r : Result X E) (P : Type 0) → P → OnOk r P
OnOk-any (Ok x) P h = h
OnOk-any (Err e) P h = tt

-- ---- results that are equal

given : {X E : Type 0} → X → Result X E → X
given x (Ok y) = y
given x (Err e) = x

refused : {X E : Type 0} → E → Result X E → E
refused e (Ok x) = e
refused e (Err d) = d

abbrev IsGiven : {X E : Type 0} → Result X E → Type 0
IsGiven (Ok x) = Unit {0}
IsGiven (Err e) = ⊥

pub same_Ok : {X E : Type 0} (x y : X) → (let r : Result X E = Ok x in r) ≡ Ok y → x ≡ y
unfolding given
same_Ok x y h = ap (given x) h

pub same_Err : {X E : Type 0} (d e : E) → (let r : Result X E = Err d in r) ≡ Err e → d ≡ e
unfolding refused
same_Err d e h = ap (refused d) h

pub Ok-Err : {X E : Type 0} (x : X) (e : E) → (let r : Result X E = Ok x in r) ≡ Err e → ⊥
Ok-Err x e h = subst IsGiven h tt
