-- The samples compute; and the conjuncts are those of the swaps.
use Rattle.std.proofs.Common.{◌≡◌, List, [], ◌∷◌, ◌++◌, map, refl, sym, ap, ◌∙◌}
use Rattle.tv_model.specs.Form.{Form, FZero, FOne, FAtom, FIsNew, FSame, FNot, FAnd, FOr, FIff, FCond}
use Rattle.tv_model.specs.Form.{FExists, FForall, FClosure}
use Rattle.tv_rules.specs.Closing.{swap_left, swap_right, swaps, conjuncts, puttings}
use Rattle.tv_rules.specs.Laws.{SwapsAreOfConjuncts}
use Rattle.tv_rules.specs.Samples.{Samples}

pub samples : Samples
samples = record {
  base = refl;
  function = refl;
  reflexive = refl;
  never = refl;
  negative = refl;
  others = refl;
  bare = refl;
  twice = refl;
  heads = refl;
  two = refl;
}

-- what is read of the elements of two mapped lists, one after the other
map-joined : {X Y : Type 0} (shows : X → Y) (f g : X → X) (xs ys : List X)
    → map shows (map f xs ++ map g ys) ≡ map (λ x. shows (f x)) xs ++ map (λ x. shows (g x)) ys
map-joined shows f g [] [] = refl
map-joined shows f g [] (y ∷ ys) = ap (λ zs. shows (g y) ∷ zs) (map-joined shows f g [] ys)
map-joined shows f g (x ∷ xs) ys = ap (λ zs. shows (f x) ∷ zs) (map-joined shows f g xs ys)

map-twice : {X Y Z : Type 0} (shows : Y → Z) (f : X → Y) (xs : List X) → map (λ x. shows (f x)) xs ≡ map shows (map f xs)
map-twice shows f [] = refl
map-twice shows f (x ∷ xs) = ap (λ zs. shows (f x) ∷ zs) (map-twice shows f xs)

map-itself : {X : Type 0} (xs : List X) → map (λ x. x) xs ≡ xs
map-itself [] = refl
map-itself (x ∷ xs) = ap (λ zs. x ∷ zs) (map-itself xs)

puttings-joined : (x : Form) (fs gs : List Form)
    → puttings x (fs ++ gs) ≡ map (λ hs. hs ++ gs) (puttings x fs) ++ map (λ hs. fs ++ hs) (puttings x gs)
puttings-joined x [] gs = sym (map-itself (puttings x gs))
puttings-joined x (f ∷ fs) gs =
    ap (λ zs. (x ∷ (fs ++ gs)) ∷ zs)
    (ap (map (λ hs. f ∷ hs)) (puttings-joined x fs gs) ∙ spread (puttings x fs) (puttings x gs))
  where
    spread : (xs ys : List (List Form))
        → map (λ hs. f ∷ hs) (map (λ hs. hs ++ gs) xs ++ map (λ hs. fs ++ hs) ys)
        ≡ map (λ hs. hs ++ gs) (map (λ hs. f ∷ hs) xs) ++ map (λ hs. f ∷ (fs ++ hs)) ys
    spread [] [] = refl
    spread [] (y ∷ ys) = ap (λ zs. (f ∷ (fs ++ y)) ∷ zs) (spread [] ys)
    spread (y ∷ xs) ys = ap (λ zs. (f ∷ (y ++ gs)) ∷ zs) (spread xs ys)

joined : {X : Type 0} (xs ys us vs : List X) → xs ≡ ys → us ≡ vs → xs ++ us ≡ ys ++ vs
joined xs ys us vs e d = ap (λ zs. zs ++ us) e ∙ ap (λ zs. ys ++ zs) d

swaps-each : (x f : Form) → map (λ s. s.conjunct) (swaps x f) ≡ conjuncts f
swaps-each x FZero = refl
swaps-each x FOne = refl
swaps-each x (FAtom p vars) = refl
swaps-each x (FIsNew v) = refl
swaps-each x (FSame v w) = refl
swaps-each x (FNot f) = refl
swaps-each x (FAnd f g) =
    map-joined (λ s. s.conjunct) (swap_left g) (swap_right f) (swaps x f) (swaps x g)
    ∙ joined (map (λ s. s.conjunct) (swaps x f)) (conjuncts f) (map (λ s. s.conjunct) (swaps x g)) (conjuncts g)
    (swaps-each x f) (swaps-each x g)
swaps-each x (FOr f g) = refl
swaps-each x (FIff f g) = refl
swaps-each x (FCond c f g) = refl
swaps-each x (FExists v f) = refl
swaps-each x (FForall v f) = refl
swaps-each x (FClosure from to left right f) = refl

swaps-bodies : (x f : Form) → conjuncts x ≡ x ∷ [] → map (λ s. conjuncts s.body) (swaps x f) ≡ puttings x (conjuncts f)
swaps-bodies x FZero e = ap (λ gs. gs ∷ []) e
swaps-bodies x FOne e = ap (λ gs. gs ∷ []) e
swaps-bodies x (FAtom p vars) e = ap (λ gs. gs ∷ []) e
swaps-bodies x (FIsNew v) e = ap (λ gs. gs ∷ []) e
swaps-bodies x (FSame v w) e = ap (λ gs. gs ∷ []) e
swaps-bodies x (FNot f) e = ap (λ gs. gs ∷ []) e
swaps-bodies x (FAnd f g) e =
    map-joined (λ s. conjuncts s.body) (swap_left g) (swap_right f) (swaps x f) (swaps x g)
    ∙ joined
    (map (λ s. conjuncts s.body ++ conjuncts g) (swaps x f)) (map (λ hs. hs ++ conjuncts g) (puttings x (conjuncts f)))
    (map (λ s. conjuncts f ++ conjuncts s.body) (swaps x g)) (map (λ hs. conjuncts f ++ hs) (puttings x (conjuncts g)))
    (map-twice (λ hs. hs ++ conjuncts g) (λ s. conjuncts s.body) (swaps x f) ∙ ap (map (λ hs. hs ++ conjuncts g)) (swaps-bodies x f e))
    (map-twice (λ hs. conjuncts f ++ hs) (λ s. conjuncts s.body) (swaps x g) ∙ ap (map (λ hs. conjuncts f ++ hs)) (swaps-bodies x g e))
    ∙ sym (puttings-joined x (conjuncts f) (conjuncts g))
swaps-bodies x (FOr f g) e = ap (λ gs. gs ∷ []) e
swaps-bodies x (FIff f g) e = ap (λ gs. gs ∷ []) e
swaps-bodies x (FCond c f g) e = ap (λ gs. gs ∷ []) e
swaps-bodies x (FExists v f) e = ap (λ gs. gs ∷ []) e
swaps-bodies x (FForall v f) e = ap (λ gs. gs ∷ []) e
swaps-bodies x (FClosure from to left right f) e = ap (λ gs. gs ∷ []) e

pub swaps_are_of_conjuncts : SwapsAreOfConjuncts
swaps_are_of_conjuncts x f = record { each = swaps-each x f; bodies = swaps-bodies x f }
