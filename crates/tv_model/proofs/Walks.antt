-- Lemmas on walks, for the crates above: walks are joined, cut at a stop, and go along a matching.
use Rattle.std.proofs.Common.{ℕ, ◌≡◌, ◌⊎◌, List, [], ◌∷◌, ◌++◌, inl, inr, sym, subst, All, Contains}
use Rattle.std.proofs.lemmas.List.Elements.{All-nil, All-cons, All-head, All-tail, All-append, All-weaker}
use Rattle.tv_model.specs.Truth.{IsWalk}
use Rattle.tv_model.proofs.Lists.{Contains-here, Contains-there, Contains-cases}

-- there is a walk
abbrev pub Walks : (ℕ → ℕ → Type 0) → ℕ → ℕ → Type 0
Walks R u w = (stops : List ℕ) × IsWalk R u stops w

-- there is a walk through allowed stops
abbrev pub WalksWithin : (ℕ → ℕ → Type 0) → List ℕ → ℕ → ℕ → Type 0
WalksWithin R allowed u w = (stops : List ℕ) × All (Contains allowed) stops × IsWalk R u stops w

pub IsWalk-join : (R : ℕ → ℕ → Type 0) (u m w : ℕ) (xs ys : List ℕ) → IsWalk R u xs m → IsWalk R m ys w
    → IsWalk R u (xs ++ m ∷ ys) w
IsWalk-join R u m w [] ys first second = (first, second)
IsWalk-join R u m w (x ∷ xs) ys first second = (first.0, IsWalk-join R x m w xs ys first.1 second)

-- the stops of a walk lie where its edges end
pub within-from_walk : (R : ℕ → ℕ → Type 0) (allowed : List ℕ) → ((u w : ℕ) → R u w → Contains allowed w)
    → (u : ℕ) (stops : List ℕ) (w : ℕ) → IsWalk R u stops w → All (Contains allowed) stops
within-from_walk R allowed ends u [] w walk = All-nil (Contains allowed)
within-from_walk R allowed ends u (stop ∷ stops) w walk =
    All-cons (Contains allowed) stop stops (ends u stop walk.0) (within-from_walk R allowed ends stop stops w walk.1)

pub WalksWithin-more : (R : ℕ → ℕ → Type 0) (x : ℕ) (allowed : List ℕ) (u w : ℕ)
    → WalksWithin R allowed u w → WalksWithin R (x ∷ allowed) u w
WalksWithin-more R x allowed u w (stops, within, walk) = (
  stops,
  All-weaker (Contains allowed) (Contains (x ∷ allowed))
      (λ y at. Contains-there x y allowed at) stops within,
  walk,
)

pub WalksWithin-join : (R : ℕ → ℕ → Type 0) (x : ℕ) (allowed : List ℕ) (u w : ℕ)
    → WalksWithin R (x ∷ allowed) u x → WalksWithin R (x ∷ allowed) x w → WalksWithin R (x ∷ allowed) u w
WalksWithin-join R x allowed u w (first, in_first, first_walk) (second, in_second, second_walk) = (
  first ++ x ∷ second,
  All-append (Contains (x ∷ allowed)) first (x ∷ second) in_first
      (All-cons (Contains (x ∷ allowed)) x second (Contains-here x allowed) in_second),
  IsWalk-join R u x w first second first_walk second_walk,
)

-- a walk avoids the first allowed stop, or is cut at it
pub WalksWithin-split : (R : ℕ → ℕ → Type 0) (x : ℕ) (allowed : List ℕ) (u : ℕ) (stops : List ℕ) (w : ℕ)
    → All (Contains (x ∷ allowed)) stops → IsWalk R u stops w
    → WalksWithin R allowed u w ⊎ (WalksWithin R allowed u x × WalksWithin R allowed x w)
WalksWithin-split R x allowed u [] w within edge = inl ([], All-nil (Contains allowed), edge)
WalksWithin-split R x allowed u (stop ∷ stops) w within walk =
    go (Contains-cases x stop allowed (All-head (Contains (x ∷ allowed)) stop stops within))
    (WalksWithin-split R x allowed stop stops w (All-tail (Contains (x ∷ allowed)) stop stops within) walk.1)
  where
    with_front : (y : ℕ) → Contains allowed stop → WalksWithin R allowed stop y → WalksWithin R allowed u y
    with_front y at (rest, within, later) =
        (stop ∷ rest, All-cons (Contains allowed) stop rest at within, (walk.0, later))

    go : (x ≡ stop) ⊎ Contains allowed stop
        → WalksWithin R allowed stop w ⊎ (WalksWithin R allowed stop x × WalksWithin R allowed x w)
        → WalksWithin R allowed u w ⊎ (WalksWithin R allowed u x × WalksWithin R allowed x w)
    go (inl e) (inl rest) =
        let Edge : ℕ → Type 0 = λ y. R u y
        in let Rest : ℕ → Type 0 = λ y. WalksWithin R allowed y w
        in inr (([], All-nil (Contains allowed), subst Edge (sym e) walk.0), subst Rest (sym e) rest)
    go (inl e) (inr cut) =
        let Edge : ℕ → Type 0 = λ y. R u y
        in inr (([], All-nil (Contains allowed), subst Edge (sym e) walk.0), cut.1)
    go (inr at) (inl rest) = inl (with_front w at rest)
    go (inr at) (inr cut) = inr (with_front x at cut.0, cut.1)

-- each element of one list is matched with one of the other
abbrev pub IsTotal : (ℕ → ℕ → Type 0) → List ℕ → List ℕ → Type 0
IsTotal M xs ys = (u : ℕ) → Contains xs u → (w : ℕ) × Contains ys w × M u w

-- walks through allowed stops go along a matching that has a partner for each of these
pub WalksWithin-matched : (M : ℕ → ℕ → Type 0) (xs ys : List ℕ) → IsTotal M xs ys → (R S : ℕ → ℕ → Type 0)
    → ((u v x y : ℕ) → M u x → M v y → R u v → S x y)
    → (u v x y : ℕ) → M u x → M v y → (stops : List ℕ) → All (Contains xs) stops → IsWalk R u stops v
    → WalksWithin S ys x y
WalksWithin-matched M xs ys there R S keeps u v x y begin end [] within walk =
    ([], All-nil (Contains ys), keeps u v x y begin end walk)
WalksWithin-matched M xs ys there R S keeps u v x y begin end (stop ∷ stops) within walk =
    let image : (w : ℕ) × Contains ys w × M stop w = there stop (All-head (Contains xs) stop stops within)
    in let rest : WalksWithin S ys image.0 y
    = WalksWithin-matched M xs ys there R S keeps stop v image.0 y image.2 end stops
    (All-tail (Contains xs) stop stops within) walk.1
    in (
      image.0 ∷ rest.0,
      All-cons (Contains ys) image.0 rest.0 image.1 rest.1,
      (keeps u stop x image.0 begin image.2 walk.0, rest.2),
    )

-- and so do walks whose edges end at matched elements
pub Walks-matched : (M : ℕ → ℕ → Type 0) (xs ys : List ℕ) → IsTotal M xs ys → (R S : ℕ → ℕ → Type 0)
    → ((u v : ℕ) → R u v → Contains xs v) → ((u v x y : ℕ) → M u x → M v y → R u v → S x y)
    → (u v x y : ℕ) → M u x → M v y → Walks R u v → Walks S x y
Walks-matched M xs ys there R S ends keeps u v x y begin end (stops, walk) =
    let image : WalksWithin S ys x y
    = WalksWithin-matched M xs ys there R S keeps u v x y begin end stops
    (within-from_walk R xs ends u stops v walk) walk
    in (image.0, image.2)
