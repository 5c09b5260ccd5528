-- Laws of a breadth-first search, as statements.
use Rattle.std.specs.Prelude.{ℕ, ◌≡◌, ◌<◌, ◌≤◌, ◌+◌, List, ◌++◌, length, Some, All, slice_get}
use Rattle.tv_structure_form.specs.StructureForm.{StructureForm}
use Rattle.tv_work.specs.Reach.{Point}
use Rattle.tv_work.specs.Task.{TaskForm, reached_in}
use Rattle.tv_trail_laws.specs.Met.{Found, IsAt, AreTraced, IsFirst, IsFromBelow, AreOpenedIn, IsPassed}
use Rattle.tv_trail_laws.specs.Met.{IsLevel}
use Rattle.tv_trail_laws.specs.Trails.{IsGoal, IsShortest}
use Rattle.tv_trail_laws.specs.declared.trail.Goal.{Goal}
use Rattle.tv_trail_laws.specs.declared.trail.Trail.{Trail}

-- the openings of the initial structures are the first level
abbrev pub FirstLevelsHold : Type 0
FirstLevelsHold = (t : TaskForm) (goal : Goal) (found : List Found)
    → ((place : ℕ) (f : Found) → slice_get found place ≡ Some f → IsFirst f)
    → ((number : ℕ) (s : StructureForm) → slice_get t.initial number ≡ Some s → AreOpenedIn t found s)
    → IsLevel t (IsGoal t.program goal) found 0 0

-- what is met while a level is passed is the next one
abbrev pub NextLevelsHold : Type 0
NextLevelsHold = (t : TaskForm) (goal : Goal) (found more : List Found) (from depth : ℕ)
    → IsLevel t (IsGoal t.program goal) found from depth → All (IsFromBelow (length found)) more
    → ((place : ℕ) → place < length found
    → (x : Point) × IsAt (found ++ more) place x × IsPassed t (IsGoal t.program goal) (found ++ more) x)
    → IsLevel t (IsGoal t.program goal) (found ++ more) (length found) (depth + 1)

-- where nothing was met behind what is passed, no goal is reached
abbrev pub LastLevelsReachNoGoal : Type 0
LastLevelsReachNoGoal = (t : TaskForm) (goal : Goal) (found : List Found) (from depth : ℕ)
    → IsLevel t (IsGoal t.program goal) found from depth → length found ≤ from → (x : Point) → reached_in t x
    → ¬ IsGoal t.program goal x

-- to a goal of a level, whatever else was met, there is a shortest trail
abbrev pub TrailsOfGoalsAreShortest : Type 0
TrailsOfGoalsAreShortest = (t : TaskForm) (goal : Goal) (found more : List Found) (from depth : ℕ)
    → IsLevel t (IsGoal t.program goal) found from depth → AreTraced t (found ++ more)
    → (place : ℕ) (x : Point)
    → place < length found → IsAt (found ++ more) place x → IsGoal t.program goal x
    → (trail : Trail) × IsShortest t.program t.mode t.initial (IsGoal t.program goal) trail
