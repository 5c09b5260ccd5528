-- What losses are looked for in, as the code holds it.
use Rattle.std.specs.Prelude.{ℕ, ◌≡◌, List, [], ◌∷◌, length, Option, None, Some, All, slice_get}
use Rattle.tv_model.specs.Program.{program_of}
use Rattle.tv_model.specs.Valid.{IsValid}
use Rattle.tv_step.specs.EngineForm.{EngineForm}
use Rattle.tv_structure_form.specs.StructureForm.{IsOver, IsStructure}
use Rattle.tv_work.specs.Analyzed.{IsWorkCause}
use Rattle.tv_work.specs.declared.error.WorkError.{WorkError}
use Rattle.tv_work.specs.Reach.{Point, IsListed, IsReached}
use Rattle.tv_losses.specs.declared.task.Task.{Task}
use Rattle.tv_losses.specs.declared.told.EdgeLoss.{EdgeLoss}

-- the points that the analysis reaches
abbrev pub reached_in : Task → Point → Type 0
reached_in x = IsReached (program_of x.program.now) x.mode x.initial.now

-- the program is valid, and the stepper is that of the program and the mode; the structures are over its
-- vocabulary, and those that are listed, at its nodes, are reached
pub record IsReady (x : Task) (stepper : EngineForm) : Type 0 where
  pub valid : IsValid (program_of x.program.now)
  pub made : stepper ≡ record { program = x.program.now; mode = x.mode }
  pub initial : All (IsOver x.program.now.vocab) x.initial.now
  pub nodes : length x.listing.now ≡ length (program_of x.program.now).nodes
  pub over : All (All (λ s. IsStructure s × IsOver x.program.now.vocab s)) x.listing.now
  pub reached : (at : Point) → IsListed x.listing.now at → reached_in x at

-- why the steps of listed structures aren't done, however many structures may be listed
abbrev pub IsLossCause : Task → WorkError → Type 0
IsLossCause x e = (max : ℕ) → IsWorkCause (program_of x.program.now) max (reached_in x) e

-- what is told of an edge where the structures at these places are lost
pub record Tells (edge listed : ℕ) (places : List ℕ) (loss : EdgeLoss) : Type 0 where
  pub edge_is : loss.edge ≡ edge
  pub lost : loss.lost ≡ length places
  pub listed_are : loss.listed ≡ listed
  pub first : slice_get places 0 ≡ Some loss.first

-- what there is, as a list
abbrev pub list_of : Option EdgeLoss → List EdgeLoss
list_of None = []
list_of (Some loss) = loss ∷ []
