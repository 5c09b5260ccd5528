-- What tests say. Those of `a && b` and `a || b` are the standard library's (`lemmas.Bool`).
use Rattle.std.proofs.Common.{◌≡◌, Bool, true, false, not, Some, None, if◌then◌else◌, refl}
use Rattle.std.specs.Prelude.{◌&&◌, ◌↔◌, IsTrue}
use Rattle.std.proofs.lemmas.Bool.{and_parts, false≢true}

pub not_true : (b : Bool) → not b ≡ true → b ≡ true → ⊥
not_true true n h = false≢true n
not_true false n h = false≢true h

-- two tests that come to the same
pub same_tests : (a b : Bool) → (a ≡ true → b ≡ true) → (b ≡ true → a ≡ true) → a ≡ b
same_tests true true f g = refl
same_tests true false f g = absurd (false≢true (f refl))
same_tests false true f g = absurd (false≢true (g refl))
same_tests false false f g = refl

-- the parts of a test one by one
pub and_left : (a b : Bool) → (a && b) ≡ true → a ≡ true
and_left a b h = (and_parts a b h).0

pub and_right : (a b : Bool) → (a && b) ≡ true → b ≡ true
and_right a b h = (and_parts a b h).1

-- a test that failed tells what doesn't hold
pub isnt_so : (P : Type 0) → ¬ P → IsTrue false ↔ P
isnt_so P none = (λ e. absurd (false≢true e), λ h. absurd (none h))

-- a test that gave a value held
pub if_true : {X : Type 0} (b : Bool) (x y : X) → (if b then Some x else None) ≡ Some y → b ≡ true
if_true true x y h = refl
if_true false x y h = cc

-- a test that gave none gives none with another value
pub none_alike : {X Y : Type 0} (b : Bool) (x : X) (y : Y) → (if b then Some x else None) ≡ None
    → (if b then Some y else None) ≡ None
none_alike true x y h = cc
none_alike false x y h = refl
