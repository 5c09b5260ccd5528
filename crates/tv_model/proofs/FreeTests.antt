-- Whether a variable stands free, as a test.
use Rattle.std.proofs.Common.{ℕ, ◌≡◌, ◌≢◌, ◌⊎◌, Bool, true, false, not, ◌==◌, ◌&&◌, ◌||◌, List, [], ◌∷◌}
use Rattle.std.proofs.Common.{IsTrue, ◌↔◌}
use Rattle.std.proofs.Common.{inl, inr, ⊎_elim, refl, sym, subst, Contains}
use Rattle.std.proofs.lemmas.Bool.{eqb-true, eq-eqb, false≢true}
use Rattle.tv_model.specs.Form.{Form, FZero, FOne, FAtom, FIsNew, FSame, FNot, FAnd, FOr, FIff, FCond}
use Rattle.tv_model.specs.Form.{FExists, FForall, FClosure, IsFree}
use Rattle.tv_model.proofs.Lists.{Contains-here, Contains-there, Contains-none, Contains-cases}
use Rattle.tv_model.specs.Free.{has_variable, is_free}

pub or-parts : (x y : Bool) → (x || y) ≡ true → (x ≡ true) ⊎ (y ≡ true)
or-parts true y e = inl refl
or-parts false y e = inr e

pub and-parts : (x y : Bool) → (x && y) ≡ true → (x ≡ true) × (y ≡ true)
and-parts true y e = (refl, e)
and-parts false y e = absurd (false≢true e)

pub or-first : (x y : Bool) → x ≡ true → (x || y) ≡ true
or-first true y e = refl
or-first false y e = absurd (false≢true e)

pub or-second : (x y : Bool) → y ≡ true → (x || y) ≡ true
or-second true y e = refl
or-second false y e = e

pub not-both : (x : Bool) → not x ≡ true → x ≡ true → ⊥
not-both true n e = false≢true n
not-both false n e = false≢true e

pub has_variable-from : (v : ℕ) (vars : List ℕ) → has_variable v vars ≡ true → Contains vars v
has_variable-from v [] e = absurd (false≢true e)
has_variable-from v (w ∷ vars) e =
    let Has : ℕ → Type 0 = λ x. Contains (w ∷ vars) x
    in ⊎_elim
    (λ same. subst Has (sym (eqb-true v w same)) (Contains-here w vars))
    (λ later. Contains-there w v vars (has_variable-from v vars later))
    (or-parts (v == w) (has_variable v vars) e)

pub from-has_variable : (v : ℕ) (vars : List ℕ) → Contains vars v → has_variable v vars ≡ true
from-has_variable v [] at = absurd (Contains-none v at)
from-has_variable v (w ∷ vars) at =
    ⊎_elim
    (λ same. or-first (v == w) (has_variable v vars) (eq-eqb v w (sym same)))
    (λ later. or-second (v == w) (has_variable v vars) (from-has_variable v vars later))
    (Contains-cases w v vars at)

other-from : (v w : ℕ) → not (v == w) ≡ true → v ≢ w
other-from v w n e = not-both (v == w) n (eq-eqb v w e)

pub either-from : (x y : Bool) (P Q : Type 0) → (x ≡ true → P) → (y ≡ true → Q) → (x || y) ≡ true → P ⊎ Q
either-from x y P Q p q e = ⊎_elim (λ a. inl (p a)) (λ b. inr (q b)) (or-parts x y e)

under-from : (v w : ℕ) (y : Bool) (Q : Type 0) → (y ≡ true → Q) → (not (v == w) && y) ≡ true → (v ≢ w) × Q
under-from v w y Q q e =
    let both : (not (v == w) ≡ true) × (y ≡ true) = and-parts (not (v == w)) y e
    in (other-from v w both.0, q both.1)

within-from : (v left right : ℕ) (y : Bool) (Q : Type 0) → (y ≡ true → Q)
    → (not (v == left) && (not (v == right) && y)) ≡ true → (v ≢ left) × (v ≢ right) × Q
within-from v left right y Q q e =
    let outer : (not (v == left) ≡ true) × ((not (v == right) && y) ≡ true) = and-parts (not (v == left)) (not (v == right) && y) e
    in let under : (v ≢ right) × Q = under-from v right y Q q outer.1
    in (other-from v left outer.0, under.0, under.1)

pub free-from : (v : ℕ) (f : Form) → is_free v f ≡ true → IsFree v f
free-from v FZero e = false≢true e
free-from v FOne e = false≢true e
free-from v (FAtom p vars) e = has_variable-from v vars e
free-from v (FIsNew w) e = eqb-true v w e
free-from v (FSame w u) e = either-from (v == w) (v == u) (v ≡ w) (v ≡ u) (eqb-true v w) (eqb-true v u) e
free-from v (FNot f) e = free-from v f e
free-from v (FAnd f g) e = either-from (is_free v f) (is_free v g) (IsFree v f) (IsFree v g) (free-from v f) (free-from v g) e
free-from v (FOr f g) e = either-from (is_free v f) (is_free v g) (IsFree v f) (IsFree v g) (free-from v f) (free-from v g) e
free-from v (FIff f g) e = either-from (is_free v f) (is_free v g) (IsFree v f) (IsFree v g) (free-from v f) (free-from v g) e
free-from v (FCond c f g) e =
    either-from (is_free v c) (is_free v f || is_free v g) (IsFree v c) (IsFree v f ⊎ IsFree v g) (free-from v c)
    (either-from (is_free v f) (is_free v g) (IsFree v f) (IsFree v g) (free-from v f) (free-from v g)) e
free-from v (FExists w f) e = under-from v w (is_free v f) (IsFree v f) (free-from v f) e
free-from v (FForall w f) e = under-from v w (is_free v f) (IsFree v f) (free-from v f) e
free-from v (FClosure from to left right f) e =
    let inner : Bool = not (v == right) && is_free v f
    in let body : Bool = not (v == left) && inner
    in let Body : Type 0 = (v ≢ left) × (v ≢ right) × IsFree v f
    in either-from (v == from) ((v == to) || body) (v ≡ from) ((v ≡ to) ⊎ Body) (eqb-true v from)
    (either-from (v == to) body (v ≡ to) Body (eqb-true v to) (within-from v left right (is_free v f) (IsFree v f) (free-from v f))) e

from-either : (x y : Bool) (P Q : Type 0) → (P → x ≡ true) → (Q → y ≡ true) → P ⊎ Q → (x || y) ≡ true
from-either x y P Q p q e = ⊎_elim (λ a. or-first x y (p a)) (λ b. or-second x y (q b)) e

and-from : (x y : Bool) → x ≡ true → y ≡ true → (x && y) ≡ true
and-from true y d e = e
and-from false y d e = absurd (false≢true d)

not-from : (x : Bool) → (x ≡ true → ⊥) → not x ≡ true
not-from true n = absurd (n refl)
not-from false n = refl

from-under : (v w : ℕ) (y : Bool) → v ≢ w → y ≡ true → (not (v == w) && y) ≡ true
from-under v w y ne e = and-from (not (v == w)) y (not-from (v == w) (λ same. ne (eqb-true v w same))) e

pub from-free : (v : ℕ) (f : Form) → IsFree v f → is_free v f ≡ true
from-free v FZero k = absurd k
from-free v FOne k = absurd k
from-free v (FAtom p vars) k = from-has_variable v vars k
from-free v (FIsNew w) k = eq-eqb v w k
from-free v (FSame w u) k = from-either (v == w) (v == u) (v ≡ w) (v ≡ u) (eq-eqb v w) (eq-eqb v u) k
from-free v (FNot f) k = from-free v f k
from-free v (FAnd f g) k = from-either (is_free v f) (is_free v g) (IsFree v f) (IsFree v g) (from-free v f) (from-free v g) k
from-free v (FOr f g) k = from-either (is_free v f) (is_free v g) (IsFree v f) (IsFree v g) (from-free v f) (from-free v g) k
from-free v (FIff f g) k = from-either (is_free v f) (is_free v g) (IsFree v f) (IsFree v g) (from-free v f) (from-free v g) k
from-free v (FCond c f g) k =
    from-either (is_free v c) (is_free v f || is_free v g) (IsFree v c) (IsFree v f ⊎ IsFree v g) (from-free v c)
    (from-either (is_free v f) (is_free v g) (IsFree v f) (IsFree v g) (from-free v f) (from-free v g)) k
from-free v (FExists w f) k = from-under v w (is_free v f) k.0 (from-free v f k.1)
from-free v (FForall w f) k = from-under v w (is_free v f) k.0 (from-free v f k.1)
from-free v (FClosure from to left right f) k =
    let body : Bool = not (v == left) && (not (v == right) && is_free v f)
    in let Body : Type 0 = (v ≢ left) × (v ≢ right) × IsFree v f
    in from-either (v == from) ((v == to) || body) (v ≡ from) ((v ≡ to) ⊎ Body) (eq-eqb v from)
    (from-either (v == to) body (v ≡ to) Body (eq-eqb v to)
    (λ b. from-under v left (not (v == right) && is_free v f) b.0 (from-under v right (is_free v f) b.1 (from-free v f b.2)))) k

pub is_free-answer : (v : ℕ) (f : Form) (b : Bool) → IsTrue b ↔ IsFree v f → b ≡ is_free v f
is_free-answer v f b answer = same b (is_free v f) (λ t. from-free v f (answer.0 t)) (λ t. answer.1 (free-from v f t))
  where
    same : (b c : Bool) → (b ≡ true → c ≡ true) → (c ≡ true → b ≡ true) → b ≡ c
    same true c to back = sym (to refl)
    same false true to back = back refl
    same false false to back = refl
