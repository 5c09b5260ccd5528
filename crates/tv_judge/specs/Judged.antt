-- When a report is closed, and what is the first demand that it doesn't meet.
use Rattle.std.specs.Prelude.{ℕ, ◌≡◌, ◌≢◌, ◌<◌, ◌⊎◌, List, [], ◌∷◌, Option, None, Some, All, AllPairs}
use Rattle.std.specs.Prelude.{Contains}
use Rattle.tv_kleene.specs.declared.K3.{K3}
use Rattle.tv_kleene.specs.declared.K3.TheVariants.{No}
use Rattle.tv_model.specs.declared.program.Edge.{Edge}
use Rattle.tv_model.specs.declared.program.Mode.{Mode}
use Rattle.tv_model.specs.Program.{ProgramForm}
use Rattle.tv_listing.specs.declared.analysis.Analysis.{Analysis}
use Rattle.tv_listing.specs.declared.analysis.Item.{Item}
use Rattle.tv_listing.specs.declared.analysis.Item.TheVariants as item
use Rattle.tv_listing.specs.declared.analysis.MapLine.{MapLine}
use Rattle.tv_listing.specs.declared.analysis.Rejection.{Rejection}
use Rattle.tv_listing.specs.declared.analysis.Rejection.TheVariants as rejection
use Rattle.tv_structure_form.specs.StructureForm.{StructureForm}
use Rattle.tv_struct.specs.declared.analysis.StageError.{StageError}
use Rattle.tv_struct.specs.declared.analysis.StageError.TheVariants.{Splits, Individuals, Memory}
use Rattle.tv_cover.specs.Covers.{IsFirstCover}
use Rattle.tv_step_laws.specs.Budgets.{KeepsBudgets, MeetsSplits, MeetsIndividuals}
use Rattle.tv_step_laws.specs.Closed.{HasLine}
use Rattle.tv_step_laws.specs.Transfer.{IsMessageValue}
use Rattle.tv_judge.specs.Items.{IsSource, IsItem, IsMet, own_line}

-- what is judged: a report on a program with initial structures, in a mode
pub record Case : Type 0 where
  pub program : ProgramForm
  pub mode : Mode
  pub initial : List StructureForm
  pub analysis : Analysis

-- the item is there, with its structure and the targets that may cover it
abbrev pub IsThere : Case → Item → (s : StructureForm) → (targets : List StructureForm) → Type 0
IsThere c item s targets = IsItem c.program c.mode c.initial c.analysis.listing item s targets

-- the listed structure of this place may make the message of the edge true
pub record MaySay (c : Case) (edge structure number : ℕ) : Type 0 where
  pub taken : Edge
  pub from : StructureForm
  pub source : IsSource c.program c.analysis.listing edge taken structure from
  pub k : K3
  pub value : IsMessageValue c.program edge from number k
  pub some : k ≢ No

-- each item is met, and each message that may be true has a line
pub record IsClosedReport (c : Case) : Type 0 where
  pub items : (item : Item) (s : StructureForm) (targets : List StructureForm) → IsThere c item s targets
      → IsMet c.analysis.maps item targets s
  pub messages : (edge structure number : ℕ) → MaySay c edge structure number
      → HasLine c.analysis.messages edge number

-- the step of each listed structure along each edge keeps the budgets
abbrev pub KeepsAllBudgets : Case → Type 0
KeepsAllBudgets c = (edge : ℕ) (taken : Edge) (structure : ℕ) (from : StructureForm)
    → IsSource c.program c.analysis.listing edge taken structure from → KeepsBudgets c.program edge from

-- ---- the order of demands

-- what is demanded: that an item is met, that a step keeps the budgets, that a message has a line
pub data Demand : Type 0 where
  Covering : Item → Demand
  Stepping : (edge structure : ℕ) → Demand
  Saying : (edge structure number : ℕ) → Demand

-- initial structures come first; then the edges, for each of them the structures at its source, and for each
-- of these the step, its results, its messages
abbrev pub demand_order : Demand → List ℕ
demand_order (Covering (item.Initial number)) = 0 ∷ number ∷ []
demand_order (Stepping edge structure) = 1 ∷ edge ∷ structure ∷ 0 ∷ []
demand_order (Covering (item.Result edge structure result)) = 1 ∷ edge ∷ structure ∷ 1 ∷ result ∷ []
demand_order (Saying edge structure number) = 1 ∷ edge ∷ structure ∷ 2 ∷ number ∷ []

-- the lexicographic order of lists of numbers
abbrev pub StandsBefore : List ℕ → List ℕ → Type 0
StandsBefore xs [] = ⊥
StandsBefore [] (y ∷ ys) = Unit {0}
StandsBefore (x ∷ xs) (y ∷ ys) = (x < y) ⊎ ((x ≡ y) × StandsBefore xs ys)

abbrev pub IsBefore : Demand → Demand → Type 0
IsBefore d e = StandsBefore (demand_order d) (demand_order e)

-- the step of the listed structure of this place meets the budget
pub record StepMeets (c : Case) (Budget : ProgramForm → ℕ → StructureForm → Type 0) (edge structure : ℕ)
    : Type 0 where
  pub taken : Edge
  pub from : StructureForm
  pub source : IsSource c.program c.analysis.listing edge taken structure from
  pub budget : Budget c.program edge from

abbrev pub MeetsAny : ProgramForm → ℕ → StructureForm → Type 0
MeetsAny p edge s = MeetsSplits p edge s ⊎ MeetsIndividuals p edge s

-- the item isn't met
pub record IsUnmet (c : Case) (item : Item) : Type 0 where
  pub s : StructureForm
  pub targets : List StructureForm
  pub there : IsThere c item s targets
  pub unmet : ¬ IsMet c.analysis.maps item targets s

-- the report doesn't meet the demand
abbrev pub FailsDemand : Case → Demand → Type 0
FailsDemand c (Covering item) = IsUnmet c item
FailsDemand c (Stepping edge structure) = StepMeets c MeetsAny edge structure
FailsDemand c (Saying edge structure number) =
    MaySay c edge structure number × (¬ HasLine c.analysis.messages edge number)

-- it meets each demand that comes before this one, and not this one
pub record FailsFirst (c : Case) (d : Demand) : Type 0 where
  pub fails : FailsDemand c d
  pub first : (other : Demand) → IsBefore other d → ¬ FailsDemand c other

-- ---- the answers

abbrev pub IsRejection : Case → Rejection → Type 0
IsRejection c (rejection.Initial number) = FailsFirst c (Covering (item.Initial number))
IsRejection c (rejection.Result edge structure result) =
    FailsFirst c (Covering (item.Result edge structure result))
IsRejection c (rejection.Message edge number) =
    (structure : ℕ) × FailsFirst c (Saying edge structure number)

-- why there is no verdict: the first demand that isn't met is that a step keeps the budgets, and it meets
-- this one
pub record StopsAt (c : Case) (Budget : ProgramForm → ℕ → StructureForm → Type 0) : Type 0 where
  pub edge : ℕ
  pub structure : ℕ
  pub first : FailsFirst c (Stepping edge structure)
  pub meets : StepMeets c Budget edge structure

abbrev pub IsJudgeCause : Case → StageError → Type 0
IsJudgeCause c Splits = StopsAt c MeetsSplits
IsJudgeCause c Individuals = StopsAt c MeetsIndividuals
IsJudgeCause c Memory = Unit {0}

-- ---- the maps of an accepted report

-- the line is the item's own, or, where it has none, that of the first target that covers it
abbrev pub IsMapBy : (own : Option MapLine) → (targets : List StructureForm) → (s : StructureForm) → MapLine
    → Type 0
IsMapBy (Some own) targets s line = line ≡ own
IsMapBy None targets s line = IsFirstCover targets s line.target line.map

-- the line's item is there, and this is the line that it is owed
pub record IsMapLine (c : Case) (line : MapLine) : Type 0 where
  pub s : StructureForm
  pub targets : List StructureForm
  pub there : IsThere c line.item s targets
  pub map : IsMapBy (own_line c.analysis.maps line.item) targets s line

-- one line for each item that is there, in the order of demands
pub record AreMapsOf (c : Case) (lines : List MapLine) : Type 0 where
  pub each : (item : Item) (s : StructureForm) (targets : List StructureForm) → IsThere c item s targets
      → (line : MapLine) × Contains lines line × (line.item ≡ item)
  pub only : All (IsMapLine c) lines
  pub ordered : AllPairs (λ a b. IsBefore (Covering a.item) (Covering b.item)) lines
