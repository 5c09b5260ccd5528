-- What an analysis may owe its silence to.
use Rattle.std.specs.Prelude.{ℕ, ◌≡◌, ◌<◌, ◌↔◌, List, [], length, Some, All, AllPairs, Any, Contains}
use Rattle.std.specs.Prelude.{slice_get}
use Rattle.tv_listing.specs.ListingForm.{at_node}
use Rattle.tv_listing.specs.declared.analysis.MessageLine.{MessageLine}
use Rattle.tv_model.specs.declared.program.Edge.{Edge}
use Rattle.tv_model.specs.declared.program.Mode.{Mode}
use Rattle.tv_model.specs.Program.{ProgramForm, ActionForm}
use Rattle.tv_structure_form.specs.StructureForm.{StructureForm}
use Rattle.tv_step_laws.specs.Transfer.{AreResults, HasNoOpening, IsActionOf}
use Rattle.tv_losses.specs.Enabled.{IsEnabledAtHand}
use Rattle.tv_work.specs.Analyzed.{IsAnalysis}
use Rattle.tv_losses.specs.declared.told.EdgeLoss.{EdgeLoss}
use Rattle.tv_losses.specs.declared.told.Losses.{Losses}

-- the numbers are exactly those that have the property, in ascending order
pub record AreExactly (P : ℕ → Type 0) (numbers : List ℕ) : Type 0 where
  pub each : (n : ℕ) → Contains numbers n ↔ P n
  pub ordered : AllPairs ◌<◌ numbers

-- the initial structure of this number has no opening
abbrev pub HasNoOpeningAt : ProgramForm → (initial : List StructureForm) → (number : ℕ) → Type 0
HasNoOpeningAt p initial number =
    (s : StructureForm) × (slice_get initial number ≡ Some s) × HasNoOpening p s

-- nothing is listed at the node of this number
abbrev pub ListsNothing : (listing : List (List StructureForm)) → (node : ℕ) → Type 0
ListsNothing listing node = slice_get listing node ≡ Some []

-- the structure is lost along the edge: it gives nothing although the edge's action is surely enabled, so
-- rules drop all that the action's update gives
pub record IsLost (p : ProgramForm) (mode : Mode) (edge : ℕ) (s : StructureForm) : Type 0 where
  pub none : AreResults p mode edge s []
  pub action : ActionForm
  pub its_action : IsActionOf p edge action
  pub enabled : IsEnabledAtHand p action s

-- so is the one at this place
abbrev pub IsLostAt : ProgramForm → Mode → (edge : ℕ) → (source : List StructureForm) → (place : ℕ) → Type 0
IsLostAt p mode edge source place =
    (s : StructureForm) × (slice_get source place ≡ Some s) × IsLost p mode edge s

-- it tells how many of how many structures at the edge's source are lost along it, and the first of them
pub record IsEdgeLoss (p : ProgramForm) (mode : Mode) (listing : List (List StructureForm))
    (loss : EdgeLoss) : Type 0 where
  pub taken : Edge
  pub is_edge : slice_get p.edges loss.edge ≡ Some taken
  pub places : List ℕ
  pub are : AreExactly (IsLostAt p mode loss.edge (at_node listing taken.from)) places
  pub lost : loss.lost ≡ length places
  pub first : slice_get places 0 ≡ Some loss.first
  pub listed : loss.listed ≡ length (at_node listing taken.from)

-- these tell so of exactly the edges along which a structure is lost, in order
pub record AreEdgeLosses (p : ProgramForm) (mode : Mode) (listing : List (List StructureForm))
    (losses : List EdgeLoss) : Type 0 where
  pub each : All (IsEdgeLoss p mode listing) losses
  pub all : (edge place : ℕ) (taken : Edge) → slice_get p.edges edge ≡ Some taken
      → IsLostAt p mode edge (at_node listing taken.from) place → Any (λ loss. loss.edge ≡ edge) losses
  pub ordered : AllPairs (λ a b. a.edge < b.edge) losses

-- what is lost where this is listed
pub record AreLossesIn (p : ProgramForm) (mode : Mode) (initial : List StructureForm)
    (listing : List (List StructureForm)) (losses : Losses) : Type 0 where
  pub initial_are : AreExactly (HasNoOpeningAt p initial) losses.initial
  pub nodes : AreExactly (ListsNothing listing) losses.nodes
  pub edges : AreEdgeLosses p mode listing losses.edges

-- and where the analysis lists it, which has for each node of the program a list
pub record AreLosses (p : ProgramForm) (mode : Mode) (initial : List StructureForm) (max : ℕ)
    (losses : Losses) : Type 0 where
  pub listing : List (List StructureForm)
  pub lines : List MessageLine
  pub analysis : IsAnalysis p mode initial max listing lines
  pub are : AreLossesIn p mode initial listing losses
