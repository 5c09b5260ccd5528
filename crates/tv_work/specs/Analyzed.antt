-- What an analysis answers: exactly the reached points and the messages that may be true at them.
use Rattle.std.specs.Prelude.{ℕ, ◌≡◌, ◌≢◌, ◌<◌, ◌≤◌, ◌⊎◌, ◌↔◌, List, length, sum_by, Some, All, AllPairs}
use Rattle.std.specs.Prelude.{Contains, slice_get}
use Rattle.std.specs.List.Sorted.{IsStrictlySortedBy}
use Rattle.tv_kleene.specs.declared.K3.{K3}
use Rattle.tv_kleene.specs.declared.K3.TheVariants.{No}
use Rattle.tv_kleene.specs.Kleene.{larger_of}
use Rattle.tv_model.specs.declared.program.Edge.{Edge}
use Rattle.tv_model.specs.declared.program.Mode.{Mode}
use Rattle.tv_model.specs.Program.{ProgramForm}
use Rattle.tv_listing.specs.ListingForm.{at_node}
use Rattle.tv_struct.specs.Order.{structure_cmp}
use Rattle.tv_structure_form.specs.StructureForm.{StructureForm}
use Rattle.tv_listing.specs.declared.analysis.MessageLine.{MessageLine}
use Rattle.tv_struct.specs.declared.analysis.StageError.{StageError}
use Rattle.tv_struct.specs.declared.analysis.StageError.TheVariants.{Splits as splits}
use Rattle.tv_struct.specs.declared.analysis.StageError.TheVariants.{Individuals as individuals}
use Rattle.tv_struct.specs.declared.analysis.StageError.TheVariants.{Memory as memory}
use Rattle.tv_step_laws.specs.Transfer.{IsMessageValue}
use Rattle.tv_step_laws.specs.Budgets.{KeepsBudgets, MeetsSplits, MeetsIndividuals}
use Rattle.tv_work.specs.Reach.{Point, IsReached, AreMoreThan}
use Rattle.tv_work.specs.declared.error.WorkError.{WorkError}
use Rattle.tv_work.specs.declared.error.WorkError.TheVariants.{Structures, Splits, Individuals, Memory}

-- a reached structure at the edge's source
pub record IsAtSource (p : ProgramForm) (edge : ℕ) (P : Point → Type 0) (x : Point) : Type 0 where
  pub taken : Edge
  pub is_edge : slice_get p.edges edge ≡ Some taken
  pub leaves : taken.from ≡ x.node
  pub has : P x

-- the message has this value for such a structure at its edge's source
pub record IsSaid (p : ProgramForm) (P : Point → Type 0) (edge number : ℕ) (k : K3) : Type 0 where
  pub at : Point
  pub source : IsAtSource p edge P at
  pub value : IsMessageValue p edge at.structure number k

-- the line tells the greatest value of its message over the structures at its edge's source, and this
-- isn't No
pub record IsReported (p : ProgramForm) (P : Point → Type 0) (line : MessageLine) : Type 0 where
  pub some : line.value ≢ No
  pub said : IsSaid p P line.edge line.number line.value
  pub greatest : (k : K3) → IsSaid p P line.edge line.number k → larger_of k line.value ≡ line.value

-- by edge, and of one edge by number
abbrev pub IsBefore : MessageLine → MessageLine → Type 0
IsBefore a b = (a.edge < b.edge) ⊎ ((a.edge ≡ b.edge) × (a.number < b.number))

-- the step of each such structure along each edge that leaves its node keeps the budgets
abbrev pub KeepAllBudgets : ProgramForm → (Point → Type 0) → Type 0
KeepAllBudgets p P = (edge : ℕ) (x : Point) → IsAtSource p edge P x → KeepsBudgets p edge x.structure

-- the listing has for each node exactly the reached structures, each once and in order, at most `max` in
-- all; the lines are exactly those of the messages that may be true, in order
pub record IsAnalysis (p : ProgramForm) (mode : Mode) (initial : List StructureForm) (max : ℕ)
    (listing : List (List StructureForm)) (lines : List MessageLine) : Type 0 where
  pub nodes : length listing ≡ length p.nodes
  pub sorted : All (IsStrictlySortedBy structure_cmp) listing
  pub exact : (node : ℕ) (s : StructureForm)
      → Contains (at_node listing node) s ↔ IsReached p mode initial (record { node = node; structure = s })
  pub within : sum_by length listing ≤ max
  pub reported : (line : MessageLine) → Contains lines line ↔ IsReported p (IsReached p mode initial) line
  pub ordered : AllPairs IsBefore lines
  pub budgets : KeepAllBudgets p (IsReached p mode initial)

-- a step of such a structure meets a budget
pub record Meets (p : ProgramForm) (Budget : (edge : ℕ) → StructureForm → Type 0) (P : Point → Type 0) : Type
    0 where
  pub edge : ℕ
  pub at : Point
  pub source : IsAtSource p edge P at
  pub budget : Budget edge at.structure

-- what an error says of the reached points
abbrev pub IsWorkCause : ProgramForm → (max : ℕ) → (Point → Type 0) → WorkError → Type 0
IsWorkCause p max P Structures = AreMoreThan max P
IsWorkCause p max P Splits = Meets p (MeetsSplits p) P
IsWorkCause p max P Individuals = Meets p (MeetsIndividuals p) P
IsWorkCause p max P Memory = Unit {0}

-- what an error says where structures are met that have the property
abbrev pub IsMeetCause : (max : ℕ) → (Point → Type 0) → WorkError → Type 0
IsMeetCause max P Structures = AreMoreThan max P
IsMeetCause max P Splits = ⊥
IsMeetCause max P Individuals = ⊥
IsMeetCause max P Memory = Unit {0}

-- the fault of a step, as one of the analysis
abbrev pub work_error : StageError → WorkError
work_error splits = Splits
work_error individuals = Individuals
work_error memory = Memory
