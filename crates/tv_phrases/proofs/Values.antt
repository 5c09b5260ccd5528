-- What equal readings say, and what came before them.
use Rattle.std.proofs.Common.{◌≡◌, Bool, true, false, cond, Option, Some, None, refl, ap, List, ◌⊎◌, inl, inr}
use Rattle.std.proofs.lemmas.Option.{same_Some}
use Rattle.tv_phrases.specs.Reading.{taken, ◌>>=◌, choose, Told, Refuses}
use Rattle.tv_phrases.specs.declared.error.PhraseError.{PhraseError}
use Rattle.tv_phrases.specs.declared.error.PhraseError.TheVariants.{Unexpected, Memory}
use Rattle.tv_lex.specs.Token.{SpecToken}

pub same_value : {X : Type 0} (x y : X) (ts us : List SpecToken) → taken x ts ≡ taken y us → x ≡ y
same_value {X} x y ts us e = ap (λ (p : X × List SpecToken). p.0) (same_Some (x, ts) (y, us) e)

pub same_rest : {X : Type 0} (x y : X) (ts us : List SpecToken) → taken x ts ≡ taken y us → ts ≡ us
same_rest {X} x y ts us e = ap (λ (p : X × List SpecToken). p.1) (same_Some (x, ts) (y, us) e)

-- the value of a step that did not fail
pub bind_some : {A B : Type 0} (o : Option A) (f : A → Option B) (y : B) → (o >>= f) ≡ Some y → (x : A) × (o ≡ Some x) × (f x ≡ Some y)
bind_some (Some x) f y e = (x, refl, e)
bind_some None f y e = absurd cc

-- which way a choice went
pub chosen : {A B : Type 0} (o : Option A) (none : B) (some : A → B) (y : B) → choose o none some ≡ y → ((o ≡ None) × (none ≡ y)) ⊎ ((x : A) × (o ≡ Some x) × (some x ≡ y))
chosen None none some y e = inl (refl, e)
chosen (Some x) none some y e = inr (x, refl, e)

pub tested : {A : Type 0} (b : Bool) (x y z : A) → cond b x y ≡ z → ((b ≡ true) × (x ≡ z)) ⊎ ((b ≡ false) × (y ≡ z))
tested true x y z e = inl (refl, e)
tested false x y z e = inr (refl, e)

-- ---- what is told of a fault, in other words

pub told_more : (e : PhraseError) (P Q : Type 0) → (P → Q) → Told e P → Told e Q
told_more (Unexpected at) P Q h p = h p
told_more Memory P Q h p = tt

pub refused_told : (e : PhraseError) (P Q : Type 0) → (P → Q) → Refuses e P → Told e Q
refused_told (Unexpected at) P Q h p = h p
refused_told Memory P Q h p = absurd p
