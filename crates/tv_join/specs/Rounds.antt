-- The rounds of the joined analysis: what is listed is followed along all edges, and what is then listed at
-- a node is joined by key, again and again.
use Rattle.std.specs.Prelude.{ℕ, ◌⊎◌, ◌↔◌, zero, suc, List}
use Rattle.tv_model.specs.declared.program.Mode.{Mode}
use Rattle.tv_model.specs.Program.{ProgramForm}
use Rattle.tv_structure_form.specs.StructureForm.{StructureForm}
use Rattle.tv_work.specs.Reach.{Point, IsStartPoint, Follows}
use Rattle.tv_join.specs.Keys.{IsJoinByKey}

-- the structure at that node
abbrev pub point : ℕ → StructureForm → Point
point node s = record { node = node; structure = s }

-- a point that is followed to x is in the set
abbrev pub IsFollowed : ProgramForm → Mode → (Point → Type 0) → Point → Type 0
IsFollowed p mode P x = (before : Point) × P before × Follows p mode before x

-- the points that a round lists: at first the joins by key of all openings, at the start node; then at each
-- node the joins by key of what the round before lists there and of the results of what it lists, along all
-- edges to the node
abbrev pub IsInRound : ProgramForm → Mode → (initial : List StructureForm) → (round : ℕ) → Point → Type 0
IsInRound p mode initial zero x = IsJoinByKey p (λ s. IsStartPoint p initial (point x.node s)) x.structure
IsInRound p mode initial (suc round) x =
    IsJoinByKey p (λ s. IsInRound p mode initial round (point x.node s)
    ⊎ IsFollowed p mode (IsInRound p mode initial round) (point x.node s)) x.structure

-- the next round lists the same
abbrev pub IsLast : ProgramForm → Mode → (initial : List StructureForm) → (round : ℕ) → Type 0
IsLast p mode initial round =
    (x : Point) → IsInRound p mode initial round x ↔ IsInRound p mode initial (suc round) x
