-- What an update answers.
use Rattle.std.specs.Prelude.{ℕ, ◌≡◌, false, List, [], map, None, All, Any, IsTrue, slice_index_or}
use Rattle.tv_model.specs.declared.program.Mode.{Mode}
use Rattle.tv_model.specs.declared.program.Program.{Program}
use Rattle.tv_model.specs.Heap.{Heap}
use Rattle.tv_model.specs.Program.{ProgramForm, ActionForm, program_of}
use Rattle.tv_model.specs.Truth.{Assignment}
use Rattle.tv_embedding_laws.specs.Embedding.{IsHeapOf}
use Rattle.tv_structure_form.specs.StructureForm.{StructureForm, structure_of}
use Rattle.tv_struct.specs.declared.analysis.StageError.{StageError}
use Rattle.tv_struct.specs.declared.analysis.StageError.TheVariants.{Splits, Individuals, Memory}
use Rattle.tv_update_laws.specs.Choices.{AreNew, AreGiven}
use Rattle.tv_update_laws.specs.Laws.{StepsFrom}
use Rattle.tv_update_laws.specs.Tables.{IsGivenOver, IsTooLarge, HasManyChoices}

-- what stands for an action that isn't there
abbrev pub no_action : ActionForm
no_action = record {
  pre = None;
  picks = [];
  focus = [];
  messages = [];
  fresh = false;
  retain = None;
  updates = [];
}

-- the action with that number
abbrev pub action_at : Program → ℕ → ActionForm
action_at program action = slice_index_or (program_of program).actions action no_action

-- the middle structure has at most 256 individuals, and there are at most 4,096 choices of those that stay
pub record IsWithinLimits (action : ActionForm) (s : StructureForm) (picks : Assignment) : Type 0 where
  pub small : ¬ IsTooLarge action (structure_of s)
  pub few : ¬ HasManyChoices action (structure_of s) picks

-- why an update gives no structures: an individual would be added to 256; or not, and there are over 4,096
-- choices
abbrev pub IsUpdateCause : ActionForm → StructureForm → Assignment → StageError → Type 0
IsUpdateCause action s picks Splits =
    (¬ IsTooLarge action (structure_of s)) × HasManyChoices action (structure_of s) picks
IsUpdateCause action s picks Individuals =
    IsTooLarge action (structure_of s) × IsTrue action.fresh × (s.size ≡ 256)
IsUpdateCause action s picks Memory = Unit {0}

-- no other tables over the predicates of s are what the action gives
abbrev pub IsSole : ProgramForm → Mode → ActionForm → StructureForm → Assignment → List StructureForm → Type 0
IsSole p mode action s picks ts =
    (us : List StructureForm) → AreGiven p mode action (structure_of s) picks (map structure_of us)
    → All (IsGivenOver s) us → us ≡ ts

-- each heap that a fair step makes of a heap of s is one of one of the tables
abbrev pub KeepsSteps : ProgramForm → Mode → ActionForm → StructureForm → Assignment → List StructureForm
    → Type 0
KeepsSteps p mode action s picks ts =
    (new : Heap) → StepsFrom p mode action (structure_of s) picks new
    → Any (λ t. IsHeapOf new (structure_of t)) ts

-- the action would add an individual to 256
pub record IsFull (action : ActionForm) (s : StructureForm) : Type 0 where
  pub adds : IsTrue action.fresh
  pub full : s.size ≡ 256

-- the tables are what the action gives from the middle structure
pub record IsGivenOf (p : ProgramForm) (mode : Mode) (action : ActionForm) (picks : Assignment)
    (m : StructureForm) (ts : List StructureForm) : Type 0 where
  pub given : AreNew p mode action picks (structure_of m) (map structure_of ts)
  pub over : All (IsGivenOver m) ts

-- all that is said of the tables
pub record IsAnswer (p : ProgramForm) (mode : Mode) (action : ActionForm) (s : StructureForm)
    (picks : Assignment) (ts : List StructureForm) : Type 0 where
  pub given : AreGiven p mode action (structure_of s) picks (map structure_of ts)
  pub over : All (IsGivenOver s) ts
  pub sole : IsSole p mode action s picks ts
  pub within : IsWithinLimits action s picks
  pub heaps : KeepsSteps p mode action s picks ts
