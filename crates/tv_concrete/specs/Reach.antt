-- Reachability by allowed stops, one after the other, and the edges of a closure.
use Rattle.std.specs.Prelude.{ℕ, ◌⊎◌, List, [], ◌∷◌}
use Rattle.tv_model.specs.Form.{form_of}
use Rattle.tv_model.specs.Truth.{ClosureEdge}
use Rattle.tv_concrete.specs.declared.truth.Edges.{Edges}
use Rattle.tv_concrete.specs.Lists.{assignment_of, heap_of}

-- a walk along R leads from u to w, whose stops are among the allowed ones
abbrev pub Reaches : (ℕ → ℕ → Type 0) → (allowed : List ℕ) → ℕ → ℕ → Type 0
Reaches R [] u w = R u w
Reaches R (stop ∷ allowed) u w = Reaches R allowed u w ⊎ (Reaches R allowed u stop × Reaches R allowed stop w)

-- the edges of a closure lead from u to w
abbrev pub Connects : Edges → ℕ → ℕ → Type 0
Connects edges =
    ClosureEdge (heap_of edges.heap.now) (assignment_of edges.values) edges.left.0 edges.right.0
    (form_of edges.body.now)
