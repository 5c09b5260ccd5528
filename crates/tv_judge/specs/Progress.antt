-- How far a report was tested.
use Rattle.std.specs.Prelude.{ℕ, ◌≡◌, ◌+◌, ◌<◌, ◌⊎◌, List, [], ◌∷◌, Some, All, AllPairs, Contains, slice_get}
use Rattle.std.specs.Prelude.{Bool, IsTrue}
use Rattle.tv_kleene.specs.declared.K3.{K3}
use Rattle.tv_model.specs.declared.program.Edge.{Edge}
use Rattle.tv_listing.specs.declared.analysis.Item.{Item}
use Rattle.tv_listing.specs.declared.analysis.Item.TheVariants as item
use Rattle.tv_listing.specs.declared.analysis.MapLine.{MapLine}
use Rattle.tv_listing.specs.declared.analysis.Rejection.{Rejection}
use Rattle.tv_listing.specs.declared.analysis.Rejection.TheVariants as rejection
use Rattle.tv_structure_form.specs.StructureForm.{StructureForm}
use Rattle.tv_step_laws.specs.Budgets.{KeepsBudgets}
use Rattle.tv_step_laws.specs.Closed.{HasLine}
use Rattle.tv_step_laws.specs.Transfer.{IsOpening, HasNoOpening, AreResults, AreMessageValues}
use Rattle.tv_judge.specs.Items.{IsSource, Covers, own_line}
use Rattle.tv_judge.specs.Judged.{Case, IsThere, MaySay, Demand, Covering, Stepping, Saying, demand_order}
use Rattle.tv_judge.specs.Judged.{StandsBefore, IsBefore, FailsDemand, IsRejection, IsJudgeCause, IsMapBy}
use Rattle.tv_judge.specs.Judged.{IsMapLine}
use Rattle.tv_judge.specs.declared.setting.Stop.{Stop}
use Rattle.tv_judge.specs.declared.setting.Stop.TheVariants.{Rejected, Stage}

-- ---- items

-- the line is the one that the item is owed, and its map is an embedding
pub record IsLineFor (lines : List MapLine) (item : Item) (targets : List StructureForm) (s : StructureForm)
    (line : MapLine) : Type 0 where
  pub item_is : line.item ≡ item
  pub map : IsMapBy (own_line lines item) targets s line
  pub covers : Covers targets s line.target line.map

-- if the item is there, its line is among these
pub record HasItemLine (c : Case) (lines : List MapLine) (item : Item) (s : StructureForm)
    (targets : List StructureForm) : Type 0 where
  pub line : MapLine
  pub among : Contains lines line
  pub is_line : IsLineFor c.analysis.maps item targets s line

abbrev pub IsDoneItem : Case → List MapLine → Item → Type 0
IsDoneItem c lines item =
    (s : StructureForm) (targets : List StructureForm) → IsThere c item s targets
    → HasItemLine c lines item s targets

-- ---- demands

-- an initial structure of this number has an opening or none
abbrev pub IsOpened : Case → (number : ℕ) → Type 0
IsOpened c number = (s : StructureForm) → slice_get c.initial number ≡ Some s
    → HasNoOpening c.program s ⊎ ((t : StructureForm) × IsOpening c.program s t)

-- a listed structure has a step along the edge
pub record HasStep (c : Case) (edge : ℕ) (from : StructureForm) : Type 0 where
  pub budgets : KeepsBudgets c.program edge from
  pub results : List StructureForm
  pub are_results : AreResults c.program c.mode edge from results

abbrev pub IsStepped : Case → (edge structure : ℕ) → Type 0
IsStepped c edge structure = (taken : Edge) (from : StructureForm)
    → IsSource c.program c.analysis.listing edge taken structure from → HasStep c edge from

-- the demand is met, with these lines
abbrev pub MeetsDemand : Case → List MapLine → Demand → Type 0
MeetsDemand c lines (Covering (item.Initial number)) =
    IsOpened c number × IsDoneItem c lines (item.Initial number)
MeetsDemand c lines (Covering (item.Result edge structure result)) =
    IsDoneItem c lines (item.Result edge structure result)
MeetsDemand c lines (Stepping edge structure) = IsStepped c edge structure
MeetsDemand c lines (Saying edge structure number) =
    MaySay c edge structure number → HasLine c.analysis.messages edge number

-- the demands before the bound are met, and these are the lines of their items
pub record IsDoneTo (c : Case) (bound : List ℕ) (lines : List MapLine) : Type 0 where
  pub done : (d : Demand) → StandsBefore (demand_order d) bound → MeetsDemand c lines d
  pub only : All (IsMapLine c) lines
  pub before : All (λ line. StandsBefore (demand_order (Covering line.item)) bound) lines
  pub ordered : AllPairs (λ a b. IsBefore (Covering a.item) (Covering b.item)) lines

-- all demands are met, with lines that are these where they are asked for
abbrev pub IsDone : Case → (asked : Bool) → (maps : List MapLine) → Type 0
IsDone c asked maps = (lines : List MapLine) × IsDoneTo c (2 ∷ []) lines × (IsTrue asked → maps ≡ lines)

-- the bound behind an item
abbrev pub behind : Item → List ℕ
behind (item.Initial number) = 0 ∷ (number + 1) ∷ []
behind (item.Result edge structure result) = 1 ∷ edge ∷ structure ∷ 1 ∷ (result + 1) ∷ []

-- ---- steps

-- the results of the listed structure, and the targets' node
pub record AreResultsAt (c : Case) (edge structure node : ℕ) (results : List StructureForm) : Type 0 where
  pub taken : Edge
  pub from : StructureForm
  pub source : IsSource c.program c.analysis.listing edge taken structure from
  pub are_results : AreResults c.program c.mode edge from results
  pub to : taken.to ≡ node

-- its message values
pub record AreValuesAt (c : Case) (edge structure : ℕ) (values : List K3) : Type 0 where
  pub taken : Edge
  pub from : StructureForm
  pub source : IsSource c.program c.analysis.listing edge taken structure from
  pub are_values : AreMessageValues c.program edge from values

-- the messages below this number that may be true have a line
abbrev pub AreSaidBelow : Case → (edge structure number : ℕ) → Type 0
AreSaidBelow c edge structure number =
    (m : ℕ) → m < number → MaySay c edge structure m → HasLine c.analysis.messages edge m

-- this is the first message that may be true and has no line
pub record IsFirstUnsaid (c : Case) (edge structure number : ℕ) : Type 0 where
  pub fails : FailsDemand c (Saying edge structure number)
  pub first : AreSaidBelow c edge structure number

-- ---- answers

-- what an item is called that isn't met
abbrev pub rejection_for : Item → Rejection
rejection_for (item.Initial number) = rejection.Initial number
rejection_for (item.Result edge structure result) = rejection.Result edge structure result

-- why the tests stop
abbrev pub IsStop : Case → Stop → Type 0
IsStop c (Rejected r) = IsRejection c r
IsStop c (Stage e) = IsJudgeCause c e
