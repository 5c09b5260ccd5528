-- The edges that leave each node.
use Rattle.std.specs.Prelude.{ℕ, ◌≡◌, ◌<◌, ◌↔◌, List, [], length, Some, AllPairs, Contains, slice_get}
use Rattle.std.specs.Prelude.{slice_index_or}
use Rattle.tv_model.specs.declared.program.Edge.{Edge}

-- the edge of this number leaves the node
abbrev pub LeavesBy : List Edge → (node edge : ℕ) → Type 0
LeavesBy edges node edge = (taken : Edge) × (slice_get edges edge ≡ Some taken) × (taken.from ≡ node)

-- for each node the numbers of exactly the edges that leave it, strictly ascending
pub record AreLeaving (edges : List Edge) (nodes : ℕ) (lists : List (List ℕ)) : Type 0 where
  pub count : length lists ≡ nodes
  pub each : (node edge : ℕ) → Contains (slice_index_or lists node []) edge ↔ LeavesBy edges node edge
  pub ordered : (node : ℕ) → AllPairs ◌<◌ (slice_index_or lists node [])
