-- What is listed where one structure more is met than may be, and what an analysis that stops there answers.
use Rattle.std.specs.Prelude.{ℕ, ◌≡◌, ◌≢◌, ◌+◌, ◌⊎◌, List, length, sum_by, All, AllPairs}
use Rattle.tv_listing.specs.declared.analysis.Analysis.{Analysis}
use Rattle.tv_model.specs.declared.program.Mode.{Mode}
use Rattle.tv_model.specs.Program.{ProgramForm}
use Rattle.tv_step_laws.specs.Budgets.{MeetsSplits, MeetsIndividuals}
use Rattle.tv_structure_form.specs.StructureForm.{StructureForm}
use Rattle.tv_work.specs.Analyzed.{Meets}
use Rattle.tv_work.specs.Explored.{KeepsListed}
use Rattle.tv_work.specs.Reach.{Point, IsListed, IsReachedWithin}
use Rattle.tv_work.specs.Task.{TaskForm, reached_in}
use Rattle.tv_work.specs.declared.analysis.Explored.{Explored}
use Rattle.tv_work.specs.declared.analysis.Explored.TheVariants.{Whole, Cut}
use Rattle.tv_work.specs.declared.analysis.Found.{Found}
use Rattle.tv_work.specs.declared.error.WorkError.{WorkError}
use Rattle.tv_work.specs.declared.error.WorkError.TheVariants.{Structures, Splits, Individuals, Memory}
use Rattle.tv_work.specs.declared.outcome.Outcome.{Outcome}
use Rattle.tv_work.specs.declared.outcome.Outcome.TheVariants.{Finished, Stopped}

-- the listing has so many nodes, and at them only structures with the property, each once, in all one more
-- than `max`
pub record ListsOneMore (nodes max : ℕ) (P : Point → Type 0) (listing : List (List StructureForm)) : Type 0
  where
    pub count : length listing ≡ nodes
    pub different : All (AllPairs (λ s t. s ≢ t)) listing
    pub each : (x : Point) → IsListed listing x → P x
    pub total : sum_by length listing ≡ max + 1

-- of the nodes of the program are listed one more than `max` structures, each once and reached through
-- listed ones
abbrev pub ListsPast : ProgramForm → Mode → (initial : List StructureForm) → (max : ℕ)
    → (listing : List (List StructureForm)) → Type 0
ListsPast p mode initial max listing =
    ListsOneMore (length p.nodes) max (IsReachedWithin p mode initial listing) listing

-- what an error says of the reached points, where it is none that there are many
abbrev pub IsStepsCause : ProgramForm → (Point → Type 0) → WorkError → Type 0
IsStepsCause p P Structures = ⊥
IsStepsCause p P Splits = Meets p (MeetsSplits p) P
IsStepsCause p P Individuals = Meets p (MeetsIndividuals p) P
IsStepsCause p P Memory = Unit {0}

-- from the old listing to the new one: nothing is lost, what is new has the property, and there is one more
-- than `max`
pub record GrowsPast (max : ℕ) (P : Point → Type 0) (old new : List (List StructureForm)) : Type 0 where
  pub kept : KeepsListed old new
  pub one_more : ListsOneMore (length old) max (λ x. IsListed old x ⊎ P x) new

-- what an error says of the listings before and after, where structures are met that have the property
abbrev pub IsMeetStop : (max : ℕ) → (Point → Type 0) → (old new : List (List StructureForm)) → WorkError
    → Type 0
IsMeetStop max P old new Structures = GrowsPast max P old new
IsMeetStop max P old new Splits = ⊥
IsMeetStop max P old new Individuals = ⊥
IsMeetStop max P old new Memory = Unit {0}

-- and where the task's structures are met
abbrev pub IsTaskStop : TaskForm → (listing : List (List StructureForm)) → WorkError → Type 0
IsTaskStop t listing Structures = ListsPast t.program t.mode t.initial t.max listing
IsTaskStop t listing Splits = Meets t.program (MeetsSplits t.program) (reached_in t)
IsTaskStop t listing Individuals = Meets t.program (MeetsIndividuals t.program) (reached_in t)
IsTaskStop t listing Memory = Unit {0}

-- ---- how an analysis ends

-- what holds of the analysis, where it finished
abbrev pub IfFinished : (Analysis → Type 0) → Outcome → Type 0
IfFinished P (Finished a) = P a
IfFinished P (Stopped listing) = Unit {0}

-- what holds of what was listed, where it stopped
abbrev pub IfStopped : (List (List StructureForm) → Type 0) → Outcome → Type 0
IfStopped P (Finished a) = Unit {0}
IfStopped P (Stopped listing) = P listing

-- what holds of all that was found
abbrev pub IfWhole : (Found → Type 0) → Explored → Type 0
IfWhole P (Whole found) = P found
IfWhole P (Cut listing) = Unit {0}

-- what holds of what was listed, where that isn't all
abbrev pub IfCut : (List (List StructureForm) → Type 0) → Explored → Type 0
IfCut P (Whole found) = Unit {0}
IfCut P (Cut listing) = P listing
