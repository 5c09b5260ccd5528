-- What a search keeps, and what is known where nothing waits.
use Rattle.std.specs.Prelude.{ℕ, ◌≡◌, ◌≢◌, ◌≤◌, ◌⊎◌, List, length, sum_by, Some, All, Contains, slice_get}
use Rattle.tv_kleene.specs.declared.K3.{K3}
use Rattle.tv_kleene.specs.declared.K3.TheVariants.{No}
use Rattle.tv_kleene.specs.Kleene.{larger_of}
use Rattle.tv_model.specs.declared.program.Edge.{Edge}
use Rattle.tv_listing.specs.ListingForm.{at_node}
use Rattle.tv_structure_form.specs.StructureForm.{StructureForm}
use Rattle.tv_step_laws.specs.Budgets.{KeepsBudgets}
use Rattle.tv_step_laws.specs.Settled.{IsSettled}
use Rattle.tv_step_laws.specs.Transfer.{AreResults, IsMessageValue, IsOpening, HasNoOpening}
use Rattle.tv_work.specs.Analyzed.{IsSaid, IsWorkCause}
use Rattle.tv_work.specs.Reach.{Point, IsListed}
use Rattle.tv_work.specs.Search.{SearchForm, StandsFor, Waits, IsWithin, IsOnce, Grows}
use Rattle.tv_work.specs.Task.{TaskForm, reached_in, reached_within}
use Rattle.tv_work.specs.Told.{told_value}
use Rattle.tv_work.specs.declared.error.WorkError.{WorkError}
use Rattle.tv_work.specs.declared.search.Waiting.{Waiting}

-- why what the task asks for isn't found
abbrev pub IsTaskCause : TaskForm → WorkError → Type 0
IsTaskCause t = IsWorkCause t.program t.max (reached_in t)

-- each listed structure is reached through listed ones, and settled
pub record IsSearchState (t : TaskForm) (s : SearchForm) : Type 0 where
  pub nodes : length s.listing ≡ length t.program.nodes
  pub within : IsWithin t.max s
  pub reached : (x : Point) → IsListed s.listing x → reached_within t s.listing x
  pub settled : (x : Point) → IsListed s.listing x → IsSettled t.program x.structure

-- only values of messages for listed structures are told
pub record AreSaid (t : TaskForm) (listing : List (List StructureForm)) (told : List (List K3)) : Type 0 where
  pub edges : length told ≡ length t.program.edges
  pub said : (edge number : ℕ) → told_value told edge number ≢ No
      → IsSaid t.program (IsListed listing) edge number (told_value told edge number)

-- nothing is lost: the search grows, and so do the values that are told
pub record Advances (search : SearchForm) (told : List (List K3)) (new : SearchForm)
    (new_told : List (List K3))
    : Type 0 where
  pub grows : Grows search new
  pub rises : (edge number : ℕ)
      → larger_of (told_value told edge number) (told_value new_told edge number) ≡ told_value new_told edge
      number

-- the openings of an initial structure are listed
pub record IsOpenedIn (t : TaskForm) (listing : List (List StructureForm)) (s : StructureForm) : Type 0 where
  pub listed : (u : StructureForm) → IsOpening t.program s u
      → IsListed listing (record { node = 0; structure = u })
  pub any : HasNoOpening t.program s ⊎ ((u : StructureForm) × IsOpening t.program s u)

-- the step of the structure along the edge is done: its results are listed, and its values are told
pub record IsDoneAlong (t : TaskForm) (listing : List (List StructureForm)) (told : List (List K3)) (edge : ℕ)
    (taken : Edge) (s : StructureForm) : Type 0 where
  pub results : List StructureForm
  pub are_results : AreResults t.program t.mode edge s results
  pub listed : (u : StructureForm) → Contains results u
      → IsListed listing (record { node = taken.to; structure = u })
  pub values : (number : ℕ) (k : K3) → IsMessageValue t.program edge s number k
      → larger_of k (told_value told edge number) ≡ told_value told edge number
  pub budgets : KeepsBudgets t.program edge s

-- so are all its steps
abbrev pub AreStepsDone : TaskForm → (listing : List (List StructureForm)) → (told : List (List K3)) → Point
    → Type 0
AreStepsDone t listing told x = (edge : ℕ) (taken : Edge) → slice_get t.program.edges edge ≡ Some taken
    → taken.from ≡ x.node → IsDoneAlong t listing told edge taken x.structure

-- each listed structure waits or is done
abbrev pub AreDone : TaskForm → SearchForm → (told : List (List K3)) → Type 0
AreDone t s told = (x : Point) → IsListed s.listing x → Waits s x ⊎ AreStepsDone t s.listing told x

-- what was listed at the place is then done along the edge
abbrev pub DoesAlong : TaskForm → Waiting → (edge : ℕ) → (old new : SearchForm) → (told : List (List K3))
    → Type 0
DoesAlong t w edge old new told = (x : Point) (taken : Edge) → StandsFor old.listing w x
    → slice_get t.program.edges edge ≡ Some taken → IsDoneAlong t new.listing told edge taken x.structure

-- and along all edges
abbrev pub Does : TaskForm → Waiting → (old new : SearchForm) → (told : List (List K3)) → Type 0
Does t w old new told = (x : Point) → StandsFor old.listing w x → AreStepsDone t new.listing told x

-- what is listed stays listed
abbrev pub KeepsListed : (old new : List (List StructureForm)) → Type 0
KeepsListed old new = (x : Point) → IsListed old x → IsListed new x

-- all is listed, and told, to which steps from openings lead
pub record IsExplored (t : TaskForm) (listing : List (List StructureForm)) (told : List (List K3)) : Type 0
  where
    pub nodes : length listing ≡ length t.program.nodes
    pub once : (node : ℕ) → IsOnce (at_node listing node)
    pub within : sum_by length listing ≤ t.max
    pub reached : (x : Point) → IsListed listing x → reached_in t x
    pub settled : (x : Point) → IsListed listing x → IsSettled t.program x.structure
    pub opened : All (IsOpenedIn t listing) t.initial
    pub said : AreSaid t listing told
    pub done : (x : Point) → IsListed listing x → AreStepsDone t listing told x
