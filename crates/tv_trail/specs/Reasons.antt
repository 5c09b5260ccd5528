-- Why a message may be true, and why a structure is listed: a shortest abstract run that leads there.
use Rattle.std.specs.Prelude.{ℕ, ◌≡◌, ◌≢◌, ◌≤◌, List, [], ◌∷◌, length, Some, slice_get, sum_by}
use Rattle.tv_kleene.specs.declared.K3.{K3}
use Rattle.tv_kleene.specs.declared.K3.TheVariants.{No}
use Rattle.tv_kleene.specs.Kleene.{larger_of}
use Rattle.tv_listing.specs.ListingForm.{at_node}
use Rattle.tv_listing.specs.declared.analysis.MessageLine.{MessageLine}
use Rattle.tv_model.specs.Program.{ProgramForm}
use Rattle.tv_model.specs.declared.program.Mode.{Mode}
use Rattle.tv_structure_form.specs.StructureForm.{StructureForm, unmarked}
use Rattle.tv_trail_laws.specs.Trails.{HasValueAt, IsShortest}
use Rattle.tv_trail_laws.specs.declared.trail.Link.{Link}
use Rattle.tv_trail_laws.specs.declared.trail.Trail.{Trail}
use Rattle.tv_work.specs.Analyzed.{IsAnalysis, KeepAllBudgets}
use Rattle.tv_work.specs.Reach.{Point, IsListed, IsReached}
use Rattle.tv_trail.specs.Causes.{IsCauseAt}

-- the structure at which a trail ends
abbrev pub last_from : StructureForm → List Link → StructureForm
last_from s [] = s
last_from s (link ∷ links) = last_from link.structure links

abbrev pub last_of : Trail → StructureForm
last_of trail = last_from trail.opening trail.links

-- ---- messages

-- The trail leads in as few steps as any to a structure at which the message has this value, which isn't No;
-- no reached structure gives it a greater one.
pub record LeadsToGreatest (p : ProgramForm) (mode : Mode) (initial : List StructureForm) (edge number : ℕ)
    (trail : Trail) (k : K3) : Type 0 where
  pub some : k ≢ No
  pub shortest : IsShortest p mode initial (HasValueAt p edge number k) trail
  pub greatest : (x : Point) (other : K3) → IsReached p mode initial x → HasValueAt p edge number other x
      → larger_of other k ≡ k

-- so does the trail, and at its end the condition has the value at this structure at hand
pub record IsRaisedBy (p : ProgramForm) (mode : Mode) (initial : List StructureForm) (edge number : ℕ)
    (trail : Trail) (k : K3) (at_hand : StructureForm) : Type 0 where
  pub leads : LeadsToGreatest p mode initial edge number trail k
  pub cause : IsCauseAt p edge number k (last_of trail) at_hand

-- the message is No at each reached structure
abbrev pub IsNeverRaised : ProgramForm → Mode → (initial : List StructureForm) → (edge number : ℕ) → Type 0
IsNeverRaised p mode initial edge number =
    (x : Point) (k : K3) → IsReached p mode initial x → HasValueAt p edge number k x → k ≡ No

-- the analysis ends: a listing of at most `max` structures has all that is reached, and the steps of these
-- keep the budgets
pub record StaysWithin (p : ProgramForm) (mode : Mode) (initial : List StructureForm) (max : ℕ)
    : Type 0 where
  pub listing : List (List StructureForm)
  pub all : (x : Point) → IsReached p mode initial x → IsListed listing x
  pub few : sum_by length listing ≤ max
  pub budgets : KeepAllBudgets p (IsReached p mode initial)

-- ---- structures

-- the analysis lists these structures at the node, in this order
abbrev pub ListsAt : ProgramForm → Mode → (initial : List StructureForm) → (max node : ℕ)
    → List StructureForm
    → Type 0
ListsAt p mode initial max node structures = (listing : List (List StructureForm))
    × (lines : List MessageLine) × IsAnalysis p mode initial max listing lines
    × (structures ≡ at_node listing node)

-- the structure stands there; marks don't count
abbrev pub StandsAt : (node : ℕ) → StructureForm → Point → Type 0
StandsAt node s x = (x.node ≡ node) × (unmarked x.structure ≡ unmarked s)

-- The trail leads in as few steps as any to the structure that the analysis lists at this place of the node.
pub record IsLedToBy (p : ProgramForm) (mode : Mode) (initial : List StructureForm) (max node index : ℕ)
    (trail : Trail) : Type 0 where
  pub structures : List StructureForm
  pub listed : ListsAt p mode initial max node structures
  pub structure : StructureForm
  pub there : slice_get structures index ≡ Some structure
  pub shortest : IsShortest p mode initial (StandsAt node structure) trail

-- the analysis lists no structure at that place
abbrev pub HasNone : ProgramForm → Mode → (initial : List StructureForm) → (max node index : ℕ) → Type 0
HasNone p mode initial max node index =
    (structures : List StructureForm) × ListsAt p mode initial max node structures
    × (length structures ≤ index)
