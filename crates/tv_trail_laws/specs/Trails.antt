-- Abstract runs: the opening of an initial structure, and edge by edge a result of the abstract step (Sagiv,
-- Reps and Wilhelm 2002, section 6); and which of them lead to a goal in as few steps as any.
use Rattle.std.specs.Prelude.{ℕ, ◌≡◌, ◌≤◌, List, [], ◌∷◌, length, Some, slice_get}
use Rattle.tv_kleene.specs.declared.K3.{K3}
use Rattle.tv_model.specs.declared.program.Edge.{Edge}
use Rattle.tv_model.specs.declared.program.Mode.{Mode}
use Rattle.tv_model.specs.Program.{ProgramForm}
use Rattle.tv_structure_form.specs.StructureForm.{StructureForm, unmarked}
use Rattle.tv_step_laws.specs.Transfer.{IsOpening, IsMessageValue}
use Rattle.tv_work.specs.Leaving.{LeavesBy}
use Rattle.tv_work.specs.Reach.{Point, Leads, IsDerivation}
use Rattle.tv_trail_laws.specs.declared.trail.Goal.{Goal}
use Rattle.tv_trail_laws.specs.declared.trail.Goal.TheVariants.{Message, Structure}
use Rattle.tv_trail_laws.specs.declared.trail.Link.{Link}
use Rattle.tv_trail_laws.specs.declared.trail.Trail.{Trail}

-- the links lead from the first point to the second, each along its edge to a result of the abstract step
abbrev pub LeadOn : ProgramForm → Mode → Point → List Link → Point → Type 0
LeadOn p mode x [] y = x ≡ y
LeadOn p mode x (link ∷ links) y = (taken : Edge)
    × Leads p mode link.edge taken x (record { node = taken.to; structure = link.structure })
    × LeadOn p mode (record { node = taken.to; structure = link.structure }) links y

-- the trail opens the initial structure of its number at node 0, and its links lead from there to the point
pub record IsTrailTo (p : ProgramForm) (mode : Mode) (initial : List StructureForm) (trail : Trail)
    (x : Point)
    : Type 0 where
  pub first : StructureForm
  pub is_first : slice_get initial trail.initial ≡ Some first
  pub opens : IsOpening p first trail.opening
  pub leads : LeadOn p mode (record { node = 0; structure = trail.opening }) trail.links x

-- the edge leaves the point's node, and its message of this number has this value there
pub record HasValueAt (p : ProgramForm) (edge number : ℕ) (k : K3) (x : Point) : Type 0 where
  pub leaves : LeavesBy p.edges x.node edge
  pub is_value : IsMessageValue p edge x.structure number k

-- the message has that value at the point, or the point is that structure at that node, marks aside
abbrev pub IsGoal : ProgramForm → Goal → Point → Type 0
IsGoal p (Message edge number k) x = HasValueAt p edge number k x
IsGoal p (Structure node s) x = (x.node ≡ node) × (unmarked x.structure ≡ unmarked s.now)

-- the trail leads to a goal, and each derivation of a goal has at least as many steps
pub record IsShortest (p : ProgramForm) (mode : Mode) (initial : List StructureForm) (G : Point → Type 0)
    (trail : Trail) : Type 0 where
  pub last : Point
  pub is_trail : IsTrailTo p mode initial trail last
  pub is_goal : G last
  pub shortest : (x : Point) (before : List Point) → IsDerivation p mode initial x before → G x
      → length trail.links ≤ length before
