-- Truth of a formula in a heap: first-order logic with transitive closure.
use Rattle.std.specs.Prelude.{ℕ, ◌≡◌, ◌⊎◌, ◌↔◌, ◌==◌, List, [], ◌∷◌, map, Some, Contains, if◌then◌else◌}
use Rattle.tv_model.specs.Form.{Form, FZero, FOne, FAtom, FIsNew, FSame, FNot, FAnd, FOr, FIff, FCond}
use Rattle.tv_model.specs.Form.{FExists, FForall, FClosure}
use Rattle.tv_model.specs.Heap.{Heap, Holds}

-- what each variable stands for
abbrev pub Assignment : Type 0
Assignment = ℕ → ℕ

-- the assignment with the individual u put for the variable v
abbrev pub put : Assignment → ℕ → ℕ → Assignment
put a v u = λ w. if w == v then u else a w

-- the assignment with the tuple put for the variables, one after the other
abbrev pub put_all : Assignment → List ℕ → List ℕ → Assignment
put_all a [] tuple = a
put_all a (v ∷ vars) [] = a
put_all a (v ∷ vars) (u ∷ tuple) = put_all (put a v u) vars tuple

-- a walk along R from u to w over the stops between them: one edge where there are none
abbrev pub IsWalk : (ℕ → ℕ → Type 0) → ℕ → List ℕ → ℕ → Type 0
IsWalk R u [] w = R u w
IsWalk R u (stop ∷ stops) w = R u stop × IsWalk R stop stops w

-- the formula is true in the heap under the assignment; a closure is true where a walk of one edge
-- or more leads from `from` to `to`, and an edge is a pair of individuals that makes the body true
abbrev pub Truth : Heap → Assignment → Form → Type 0
Truth h a FZero = ⊥
Truth h a FOne = Unit {0}
Truth h a (FAtom pred vars) = Holds h pred (map a vars)
Truth h a (FIsNew v) = h.fresh ≡ Some (a v)
Truth h a (FSame v w) = a v ≡ a w
Truth h a (FNot f) = ¬ Truth h a f
Truth h a (FAnd f g) = Truth h a f × Truth h a g
Truth h a (FOr f g) = Truth h a f ⊎ Truth h a g
Truth h a (FIff f g) = Truth h a f ↔ Truth h a g
Truth h a (FCond c f g) = (Truth h a c × Truth h a f) ⊎ ((¬ Truth h a c) × Truth h a g)
Truth h a (FExists v f) = (u : ℕ) × Contains h.individuals u × Truth h (put a v u) f
Truth h a (FForall v f) = (u : ℕ) → Contains h.individuals u → Truth h (put a v u) f
Truth h a (FClosure from to left right f) =
    (stops : List ℕ) × IsWalk
    (λ u w. Contains h.individuals u × Contains h.individuals w × Truth h (put (put a left u) right w) f)
    (a from) stops (a to)

-- an edge of a closure: a pair of individuals that makes the body true
abbrev pub ClosureEdge : Heap → Assignment → (left right : ℕ) → Form → ℕ → ℕ → Type 0
ClosureEdge h a left right f u w =
    Contains h.individuals u × Contains h.individuals w × Truth h (put (put a left u) right w) f
