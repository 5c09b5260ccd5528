-- Walks are found by allowed stops.
use Rattle.std.proofs.Common.{ℕ, ◌≡◌, List, [], ◌∷◌, ◌++◌, inl, inr, ⊎_elim, subst, Contains, Bool, IsTrue}
use Rattle.std.proofs.Common.{◌↔◌}
use Rattle.std.proofs.lemmas.List.Elements.{All-head}
use Rattle.tv_model.specs.Form.{Form, FClosure}
use Rattle.tv_model.specs.Heap.{Heap}
use Rattle.tv_model.specs.Truth.{Assignment, Truth, ClosureEdge}
use Rattle.tv_model.proofs.Lists.{Contains-none}
use Rattle.tv_model.proofs.Walks.{Walks, WalksWithin, IsWalk-join, WalksWithin-split, within-from_walk}
use Rattle.tv_concrete.specs.Reach.{Reaches}

-- what reaches by allowed stops has a walk
pub Walks-from_Reaches : (R : ℕ → ℕ → Type 0) (allowed : List ℕ) (u w : ℕ) → Reaches R allowed u w → Walks R u w
Walks-from_Reaches R [] u w edge = ([], edge)
Walks-from_Reaches R (x ∷ allowed) u w (inl past) = Walks-from_Reaches R allowed u w past
Walks-from_Reaches R (x ∷ allowed) u w (inr through) =
    let first : Walks R u x = Walks-from_Reaches R allowed u x through.0
    in let second : Walks R x w = Walks-from_Reaches R allowed x w through.1
    in (first.0 ++ x ∷ second.0, IsWalk-join R u x w first.0 second.0 first.1 second.1)

pub Reaches-from_within : (R : ℕ → ℕ → Type 0) (allowed : List ℕ) (u w : ℕ) → WalksWithin R allowed u w
    → Reaches R allowed u w
Reaches-from_within R [] u w ([], within, edge) = edge
Reaches-from_within R [] u w (stop ∷ stops, within, walk) = absurd
    (Contains-none stop (All-head (Contains []) stop stops within))
Reaches-from_within R (x ∷ allowed) u w (stops, within, walk) =
    ⊎_elim
    (λ past. inl (Reaches-from_within R allowed u w past))
    (λ through. inr (Reaches-from_within R allowed u x through.0, Reaches-from_within R allowed x w through.1))
    (WalksWithin-split R x allowed u stops w within walk)

pub Reaches-from_Walks : (R : ℕ → ℕ → Type 0) (allowed : List ℕ) → ((u w : ℕ) → R u w → Contains allowed w)
    → (u w : ℕ) → Walks R u w → Reaches R allowed u w
Reaches-from_Walks R allowed ends u w walk =
    Reaches-from_within R allowed u w (walk.0, within-from_walk R allowed ends u walk.0 w walk.1, walk.1)

-- an answer on reachability answers the closure
pub Closure-from_reaches : (h : Heap) (a : Assignment) (from to left right : ℕ) (f : Form) (allowed : List ℕ)
    (u w : ℕ) (b : Bool)
    → allowed ≡ h.individuals → u ≡ a from → w ≡ a to
    → IsTrue b ↔ Reaches (ClosureEdge h a left right f) allowed u w
    → IsTrue b ↔ Truth h a (FClosure from to left right f)
Closure-from_reaches h a from to left right f allowed u w b all begin end answer =
    let R : ℕ → ℕ → Type 0 = ClosureEdge h a left right f
    in let Allowed : List ℕ → Type 0 = λ xs. IsTrue b ↔ Reaches R xs u w
    in let Begins : ℕ → Type 0 = λ x. IsTrue b ↔ Reaches R h.individuals x w
    in let Ends : ℕ → Type 0 = λ x. IsTrue b ↔ Reaches R h.individuals (a from) x
    in let moved : IsTrue b ↔ Reaches R h.individuals (a from) (a to) = subst Ends end
    (subst Begins begin (subst Allowed all answer))
    in (
      λ t. Walks-from_Reaches R h.individuals (a from) (a to) (moved.0 t),
      λ t. moved.1 (Reaches-from_Walks R h.individuals (λ x y e. e.1) (a from) (a to) t),
    )
