-- What a search has met and lists, and what is known of it.
use Rattle.std.specs.Prelude.{ℕ, ◌≡◌, ◌<◌, ◌≤◌, Bool, true, false, List, [], ◌++◌, length}
use Rattle.std.specs.Prelude.{Option, Some, None, All, slice_get, slice_index_or, sum_by}
use Rattle.tv_listing.specs.ListingForm.{at_node}
use Rattle.tv_model.specs.Program.{ProgramForm}
use Rattle.tv_model.specs.declared.program.Edge.{Edge}
use Rattle.tv_structure_form.specs.StructureForm.{StructureForm}
use Rattle.tv_step_laws.specs.Budgets.{KeepsBudgets}
use Rattle.tv_step_laws.specs.Settled.{IsSettled}
use Rattle.tv_work.specs.Leaving.{LeavesBy}
use Rattle.tv_work.specs.Reach.{Point, IsListed, Leads}
use Rattle.tv_work.specs.Search.{IsOnce}
use Rattle.tv_work.specs.Task.{TaskForm, reached_in}
use Rattle.tv_trail_laws.specs.Met.{Found, IsAt, IsMet, IsOrigin, IsPassed, IsNearest}
use Rattle.tv_trail_laws.specs.Trails.{IsGoal, IsShortest}
use Rattle.tv_trail_laws.specs.declared.trail.Goal.{Goal}
use Rattle.tv_trail_laws.specs.declared.trail.Origin.TheVariants.{Step}
use Rattle.tv_trail_laws.specs.declared.trail.Trail.{Trail}
use Rattle.tv_trail.specs.Aims.{IsGoalAlong}
use Rattle.tv_trail.specs.Reasons.{StaysWithin}
use Rattle.tv_trail.specs.declared.search.Met.{Met}

-- what is listed, and what was met, in the order in which it was met
pub record TraceForm : Type 0 where
  pub listing : List (List StructureForm)
  pub found : List Found

-- ---- places in the listing

abbrev pub no-structure : StructureForm
no-structure = record { size = 0; summaries = []; planes = []; fresh = None }

-- what stands at the place
abbrev pub found_in : List (List StructureForm) → Met → Found
found_in listing m = record {
  point = record { node = m.node; structure = slice_index_or (at_node listing m.node) m.place no-structure };
  origin = m.origin;
}

-- what is listed is unmarked, and each structure stands once; what was met stands at its places
pub record IsPlaced (listing : List (List StructureForm)) (met : List Met) : Type 0 where
  pub unmarked : (x : Point) → IsListed listing x → x.structure.fresh ≡ None
  pub once : (node : ℕ) → IsOnce (at_node listing node)
  pub places : All (λ m. m.place < length (at_node listing m.node)) met

-- ---- what was met

-- what is listed was met, and what was met is listed; it is as much
pub record AreListedMet (s : TraceForm) : Type 0 where
  pub met : (x : Point) → IsListed s.listing x → IsMet s.found x
  pub listed : (x : Point) → IsMet s.found x → IsListed s.listing x
  pub count : length s.found ≡ sum_by length s.listing

-- the new search has met more, and all of that has the property
pub record Meets (P : Found → Type 0) (old new : TraceForm) : Type 0 where
  pub nodes : length new.listing ≡ length old.listing
  pub more : List Found
  pub is : new.found ≡ old.found ++ more
  pub each : All P more

-- it came as it tells, is reached, and needs no coerce
pub record IsTraced (t : TaskForm) (found : List Found) (place : ℕ) (f : Found) : Type 0 where
  pub origin : IsOrigin t found place f.point f.origin
  pub reached : reached_in t f.point
  pub settled : IsSettled t.program f.point.structure

-- what a search keeps
pub record IsState (t : TaskForm) (s : TraceForm) : Type 0 where
  pub nodes : length s.listing ≡ length t.program.nodes
  pub within : length s.found ≤ t.max
  pub listed : AreListedMet s
  pub traced : (place : ℕ) (f : Found) → slice_get s.found place ≡ Some f → IsTraced t s.found place f

-- it was met as a result of what was met at that place
abbrev pub IsFrom : (place : ℕ) → Found → Type 0
IsFrom place f = (edge : ℕ) × (f.origin ≡ Step place edge)

-- the edge leaves the node of what was met at the place
abbrev pub LeavesAt : ProgramForm → List Found → (place edge : ℕ) → Type 0
LeavesAt p found place edge = (x : Point) → IsAt found place x → LeavesBy p.edges x.node edge

-- ---- what the parts of a search answer

-- all results of the point along the edge were met
abbrev pub IsFollowedAlong : TaskForm → List Found → (edge : ℕ) → Point → Type 0
IsFollowedAlong t found edge x = (taken : Edge) (y : Point) → Leads t.program t.mode edge taken x y
    → IsMet found y

-- the point at the place is a goal; else it is none along the edge, and followed along it within the budgets
abbrev pub AnswersAlong : TaskForm → Goal → (place edge : ℕ) → List Found → Bool → Type 0
AnswersAlong t goal place edge found true = (x : Point) × IsAt found place x × IsGoal t.program goal x
AnswersAlong t goal place edge found false = (x : Point) × IsAt found place x
    × (¬ IsGoalAlong t.program goal edge x) × IsFollowedAlong t found edge x
    × KeepsBudgets t.program edge x.structure

-- the point at the place is a goal; else it is none, and followed
abbrev pub AnswersHere : TaskForm → (G : Point → Type 0) → (place : ℕ) → List Found → Bool → Type 0
AnswersHere t G place found true = (x : Point) × IsAt found place x × G x
AnswersHere t G place found false = (x : Point) × IsAt found place x × IsPassed t G found x

-- a goal before `to`; where there is none from `from` on, all these are passed
abbrev pub AnswersLevel : TaskForm → (G : Point → Type 0) → (from to : ℕ) → List Found → Option ℕ → Type 0
AnswersLevel t G from to found (Some place) = (place < to)
    × ((x : Point) × IsAt found place x × G x)
AnswersLevel t G from to found None = (place : ℕ) → from ≤ place → place < to
    → (x : Point) × IsAt found place x × IsPassed t G found x

-- the place of a nearest goal; where there is none, all that is reached was met and passed
abbrev pub AnswersSearch : TaskForm → (G : Point → Type 0) → List Found → Option ℕ → Type 0
AnswersSearch t G found (Some place) = IsNearest t G found place
AnswersSearch t G found None = (x : Point) → reached_in t x → IsMet found x × IsPassed t G found x

-- a shortest trail; where there is none, no goal is reached, and the analysis ends
abbrev pub AnswersTrail : TaskForm → (G : Point → Type 0) → Option Trail → Type 0
AnswersTrail t G (Some trail) = IsShortest t.program t.mode t.initial G trail
AnswersTrail t G None =
    ((x : Point) → reached_in t x → ¬ G x) × StaysWithin t.program t.mode t.initial t.max
