-- Lists that come of lists, where each part is told.
use Rattle.std.proofs.Common.{◌≡◌, Bool, true, false, List, [], ◌∷◌, ◌++◌, map, filter, refl, sym, subst}
use Rattle.std.proofs.Common.{⊎_elim, All}
use Rattle.std.specs.List.{flat_map}
use Rattle.std.proofs.lemmas.Bool.{cases_Bool, cond-true, cond-false}
use Rattle.std.proofs.lemmas.List.Elements.{All-head, All-tail}
use Rattle.tv_step_laws.specs.Parts.{AreFrom}
use Rattle.tv_step_laws.proofs.From.{from-append}

-- what is told of each element is what all make
pub from-told : {W X Y : Type 0} (R : X → List Y → Type 0) (f : W → X) (g : W → List Y) (ws : List W)
    → All (λ w. R (f w) (g w)) ws → AreFrom R (map f ws) (flat_map g ws)
from-told R f g [] all = refl
from-told R f g (w ∷ ws) all = (
  g w,
  flat_map g ws,
  All-head (λ v. R (f v) (g v)) w ws all,
  from-told R f g ws (All-tail (λ v. R (f v) (g v)) w ws all),
  refl,
)

-- and so where lists are told
pub from-lists : {W X Y : Type 0} (R : X → List Y → Type 0) (f : W → List X) (g : W → List Y) (ws : List W)
    → All (λ w. AreFrom R (f w) (g w)) ws → AreFrom R (flat_map f ws) (flat_map g ws)
from-lists R f g [] all = refl
from-lists R f g (w ∷ ws) all =
    from-append R (f w) (flat_map f ws) (g w) (flat_map g ws)
    (All-head (λ v. AreFrom R (f v) (g v)) w ws all)
    (from-lists R f g ws (All-tail (λ v. AreFrom R (f v) (g v)) w ws all))

-- an element that passes makes its part, and one that doesn't makes nothing
pub from-passed : {X Y : Type 0} (R : X → List Y → Type 0) (test : X → Bool) (x : X) (xs : List X)
    (own rest : List Y) → (test x ≡ true → R x own) → (test x ≡ false → own ≡ [])
    → AreFrom R (filter test xs) rest → AreFrom R (filter test (x ∷ xs)) (own ++ rest)
from-passed {X} {Y} R test x xs own rest made none later =
    ⊎_elim
    (λ passes. rw (cond-true (test x) (x ∷ filter test xs) (filter test xs) passes)
    (own, rest, made passes, later, refl))
    (λ fails. rw (cond-false (test x) (x ∷ filter test xs) (filter test xs) fails)
    (subst (λ (ys : List Y). AreFrom R (filter test xs) (ys ++ rest)) (sym (none fails)) later))
    (cases_Bool (test x))
