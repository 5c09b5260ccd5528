-- Laws of renamed heaps, as statements.
use Rattle.std.specs.Prelude.{ℕ, ◌≡◌, ◌≢◌, ◌<◌, ◌↔◌, List, map, length, AllPairs, slice_index}
use Rattle.tv_model.specs.Form.{Form}
use Rattle.tv_model.specs.Heap.{Heap}
use Rattle.tv_model.specs.Program.{ProgramForm, ActionForm}
use Rattle.tv_model.specs.Rules.{IsHeap, IsConcrete, MeetsProgram}
use Rattle.tv_model.specs.Run.{IsStart, IsRun, Stage}
use Rattle.tv_model.specs.Step.{StepsThrough, AgreesWithGiven, FairStep}
use Rattle.tv_model.specs.Truth.{Assignment, Truth}
use Rattle.tv_model.specs.Valid.{IsValid}
use Rattle.tv_model.specs.declared.program.Edge.{Edge}
use Rattle.tv_model.specs.declared.program.Mode.{Mode}
use Rattle.tv_renaming_laws.specs.Renamed.{renamed, renamed_values, renamed_stage, IsRenaming}

-- truth stays under other names
abbrev pub RenamingKeepsTruth : Type 0
RenamingKeepsTruth =
    (r s : ℕ → ℕ) → IsRenaming r s → (h : Heap) (a : Assignment) (f : Form)
    → Truth h a f ↔ Truth (renamed r h) (renamed_values r a) f

-- heaps, and steps between them, stay under other names
pub record KeepsSteps (p : ProgramForm) (r : ℕ → ℕ) : Type 0 where
  pub heaps : (h : Heap) → IsHeap p h → IsHeap p (renamed r h)
  pub concrete : (h : Heap) → IsConcrete p h → IsConcrete p (renamed r h)
  pub meets : (h : Heap) → MeetsProgram p h → MeetsProgram p (renamed r h)
  pub steps : (action : ActionForm) (picked : Assignment) (old middle new : Heap)
      → StepsThrough p action picked old middle new
      → StepsThrough p action (renamed_values r picked) (renamed r old) (renamed r middle) (renamed r new)
  pub given : (mode : Mode) (action : ActionForm) (picked : Assignment) (middle new : Heap)
      → AgreesWithGiven p mode action picked middle new
      → AgreesWithGiven p mode action (renamed_values r picked) (renamed r middle) (renamed r new)

abbrev pub RenamingKeepsSteps : Type 0
RenamingKeepsSteps = (p : ProgramForm) → IsValid p → (r s : ℕ → ℕ) → IsRenaming r s → KeepsSteps p r

-- starts, fair steps and runs stay under other names
pub record KeepsRuns (p : ProgramForm) (r : ℕ → ℕ) : Type 0 where
  pub starts : (h : Heap) → IsStart p h → IsStart p (renamed r h)
  pub fair : (mode : Mode) (edge : Edge) (old new : Heap) → FairStep p mode edge old new
      → FairStep p mode edge (renamed r old) (renamed r new)
  pub runs : (mode : Mode) (start : Heap) (stages : List Stage) → IsRun p mode start stages
      → IsRun p mode (renamed r start) (map (renamed_stage r) stages)

abbrev pub RenamingKeepsRuns : Type 0
RenamingKeepsRuns = (p : ProgramForm) → IsValid p → (r s : ℕ → ℕ) → IsRenaming r s → KeepsRuns p r

-- different individuals are what some renaming calls the numbers below their count, in order
abbrev pub FrontsAreRenamings : Type 0
FrontsAreRenamings =
    (xs : List ℕ) → AllPairs ◌≢◌ xs
    → (r s : ℕ → ℕ) × IsRenaming r s × ((k : ℕ) → k < length xs → r k ≡ slice_index xs k)
