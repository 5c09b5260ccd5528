-- Goals, by what one step tells of them.
use Rattle.std.specs.Prelude.{ℕ, ◌≡◌, List, Some, slice_get}
use Rattle.tv_kleene.specs.declared.K3.{K3}
use Rattle.tv_model.specs.Program.{ProgramForm}
use Rattle.tv_structure_form.specs.StructureForm.{StructureForm, unmarked}
use Rattle.tv_work.specs.Reach.{Point}
use Rattle.tv_trail_laws.specs.Trails.{HasValueAt}
use Rattle.tv_trail_laws.specs.declared.trail.Goal.{Goal}
use Rattle.tv_trail_laws.specs.declared.trail.Goal.TheVariants.{Message, Structure}

-- the goal is a message of the edge, and its value among these is that of the goal
abbrev pub Raises : Goal → (edge : ℕ) → List K3 → Type 0
Raises (Message asked number k) edge values = (asked ≡ edge) × (slice_get values number ≡ Some k)
Raises (Structure node s) edge values = ⊥

-- the goal is this structure at this node, marks aside
abbrev pub IsThere : Goal → (node : ℕ) → StructureForm → Type 0
IsThere (Message asked number k) node t = ⊥
IsThere (Structure asked s) node t = (node ≡ asked) × (unmarked t ≡ unmarked s.now)

-- the goal is a message of the edge, and has its value at the point
abbrev pub IsGoalAlong : ProgramForm → Goal → (edge : ℕ) → Point → Type 0
IsGoalAlong p (Message asked number k) edge x = (asked ≡ edge) × HasValueAt p edge number k x
IsGoalAlong p (Structure node s) edge x = ⊥
