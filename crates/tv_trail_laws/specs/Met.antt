-- What a breadth-first search has met, and what is known of it level by level.
use Rattle.std.specs.Prelude.{ℕ, zero, suc, ◌≡◌, ◌<◌, ◌≤◌, List, length, Some, slice_get}
use Rattle.tv_model.specs.declared.program.Edge.{Edge}
use Rattle.tv_model.specs.Program.{ProgramForm}
use Rattle.tv_structure_form.specs.StructureForm.{StructureForm}
use Rattle.tv_step_laws.specs.Budgets.{KeepsBudgets}
use Rattle.tv_step_laws.specs.Transfer.{IsOpening}
use Rattle.tv_work.specs.Leaving.{LeavesBy}
use Rattle.tv_work.specs.Reach.{Point, Leads, Follows, IsDerivation}
use Rattle.tv_work.specs.Task.{TaskForm}
use Rattle.tv_trail_laws.specs.Trails.{IsTrailTo}
use Rattle.tv_trail_laws.specs.declared.trail.Origin.{Origin}
use Rattle.tv_trail_laws.specs.declared.trail.Origin.TheVariants.{Initial, Step}
use Rattle.tv_trail_laws.specs.declared.trail.Trail.{Trail}

-- a point that was met, and how
pub record Found : Type 0 where
  pub point : Point
  pub origin : Origin

-- the point was met at that place
abbrev pub IsAt : List Found → (place : ℕ) → Point → Type 0
IsAt found place x = (origin : Origin)
    × (slice_get found place ≡ Some (record { point = x; origin = origin }))

abbrev pub IsMet : List Found → Point → Type 0
IsMet found x = (place : ℕ) × IsAt found place x

-- the point opens the initial structure at node 0, or is a result of one that was met before
abbrev pub IsOrigin : TaskForm → List Found → (place : ℕ) → Point → Origin → Type 0
IsOrigin t found place x (Initial number) = (x.node ≡ 0)
    × ((s : StructureForm) × (slice_get t.initial number ≡ Some s) × IsOpening t.program s x.structure)
IsOrigin t found place x (Step before edge) = (before < place)
    × ((b : Point) × IsAt found before b × ((taken : Edge) × Leads t.program t.mode edge taken b x))

-- all came as they tell
abbrev pub AreTraced : TaskForm → List Found → Type 0
AreTraced t found = (place : ℕ) (f : Found) → slice_get found place ≡ Some f
    → IsOrigin t found place f.point f.origin

-- it was met as an opening; or as a result of what was met before that place
abbrev pub IsFirst : Found → Type 0
IsFirst f = (number : ℕ) × (f.origin ≡ Initial number)

abbrev pub IsFromBelow : (to : ℕ) → Found → Type 0
IsFromBelow to f = (before : ℕ) × (edge : ℕ) × (before < to) × (f.origin ≡ Step before edge)

-- the openings of an initial structure were met
abbrev pub AreOpenedIn : TaskForm → List Found → StructureForm → Type 0
AreOpenedIn t found s = (u : StructureForm) → IsOpening t.program s u
    → IsMet found (record { node = 0; structure = u })

-- all results of the point were met
abbrev pub IsFollowed : TaskForm → List Found → Point → Type 0
IsFollowed t found x = (y : Point) → Follows t.program t.mode x y → IsMet found y

-- the step of the point along each edge that leaves its node keeps the budgets
abbrev pub StepsKeepBudgets : ProgramForm → Point → Type 0
StepsKeepBudgets p x = (edge : ℕ) → LeavesBy p.edges x.node edge → KeepsBudgets p edge x.structure

-- the point is no goal, and followed within the budgets
pub record IsPassed (t : TaskForm) (G : Point → Type 0) (found : List Found) (x : Point) : Type 0 where
  pub none : ¬ G x
  pub followed : IsFollowed t found x
  pub budgets : StepsKeepBudgets t.program x

-- so many steps led to what was met at the place
abbrev pub HasDepth : List Found → (place depth : ℕ) → Type 0
HasDepth found place zero = (x : Point) × (number : ℕ)
    × (slice_get found place ≡ Some (record { point = x; origin = Initial number }))
HasDepth found place (suc depth) = (x : Point) × (before : ℕ) × (edge : ℕ)
    × (slice_get found place ≡ Some (record { point = x; origin = Step before edge }))
    × HasDepth found before depth

-- what at most `depth` steps reach was met, and it alone; what fewer reach was met before `from`, and that is
-- passed
pub record IsLevel (t : TaskForm) (G : Point → Type 0) (found : List Found) (from depth : ℕ) : Type 0 where
  pub shallow : (place : ℕ) (f : Found) → slice_get found place ≡ Some f
      → (n : ℕ) × (n ≤ depth) × HasDepth found place n
  pub whole : (x : Point) (before : List Point) → IsDerivation t.program t.mode t.initial x before
      → length before ≤ depth → IsMet found x
  pub earlier : (x : Point) (before : List Point) → IsDerivation t.program t.mode t.initial x before
      → length before < depth → (place : ℕ) × (place < from) × IsAt found place x
  pub passed : (place : ℕ) → place < from → (x : Point) × IsAt found place x × IsPassed t G found x

-- a goal is at the place, and no derivation of a goal has fewer steps
pub record IsNearest (t : TaskForm) (G : Point → Type 0) (found : List Found) (place : ℕ) : Type 0 where
  pub point : Point
  pub is_at : IsAt found place point
  pub is_goal : G point
  pub depth : ℕ
  pub has_depth : HasDepth found place depth
  pub nearest : (y : Point) (before : List Point) → IsDerivation t.program t.mode t.initial y before → G y
      → depth ≤ length before

-- the trail leads to what was met at the place, in as many steps as led there
pub record IsTrailFrom (t : TaskForm) (found : List Found) (place : ℕ) (trail : Trail) : Type 0 where
  pub is_trail : (x : Point) → IsAt found place x → IsTrailTo t.program t.mode t.initial trail x
  pub steps : (depth : ℕ) → HasDepth found place depth → length trail.links ≡ depth
