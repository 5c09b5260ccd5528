-- The turns of focus atoms, as the code takes them.
use Rattle.std.specs.Prelude.{ℕ, ◌≡◌, List, ◌∷◌, ◌++◌, map, All}
use Rattle.tv_model.specs.Form.{Form, form_of}
use Rattle.tv_model.specs.Program.{ProgramForm}
use Rattle.tv_structure_form.specs.StructureForm.{StructureForm}
use Rattle.tv_struct.specs.declared.analysis.StageError.{StageError}
use Rattle.tv_struct.specs.declared.analysis.StageError.TheVariants.{Splits, Individuals, Memory}
use Rattle.tv_step_laws.specs.Transfer.{FocusPlace, places_in}
use Rattle.tv_step_laws.specs.Shaped.{IsShaped}
use Rattle.tv_step.specs.Steps.{IsFocusCause, IsPlace}
use Rattle.tv_stages_laws.specs.declared.record.FocusRow.{FocusRow}
use Rattle.tv_stages_laws.specs.Stages.{NumberedPlace, AreFocusRows}
use Rattle.tv_stages.specs.declared.task.Task.{Task}
use Rattle.tv_stages.specs.declared.task.Tools.{Tools}
use Rattle.tv_stages.specs.declared.turn.Progress.{Progress}
use Rattle.tv_stages.specs.declared.turn.Turn.{Turn}
use Rattle.tv_stages.specs.Tasks.{IsReadyToRecord, task_program}

abbrev pub turn_place : Turn → FocusPlace
turn_place turn = record { formula = form_of turn.formula.now; atom = turn.atom }

abbrev pub turn_of : Turn → NumberedPlace
turn_of turn = record { number = turn.number; place = turn_place turn }

-- the turn of an atom of the program can be taken in the structures, which are over it
pub record CanFocus (x : Task) (tools : Tools) (turn : Turn) (ss : List StructureForm) : Type 0 where
  pub ready : IsReadyToRecord x tools
  pub place : IsPlace (task_program x) (turn_place turn)
  pub shaped : All (IsShaped (task_program x)) ss

-- the atoms of the formula with this number
abbrev pub numbered_places : ℕ → Form → List NumberedPlace
numbered_places n f = map (λ place. record { number = n; place = place }) (places_in f)

-- these turns are taken between the two
abbrev pub Turned : ProgramForm → List NumberedPlace → (old new : Progress) → Type 0
Turned p turns old new =
    (rows : List FocusRow) × (new.rows ≡ old.rows ++ rows) × AreFocusRows p turns old.at_hand rows new.at_hand

-- where the turn of one comes, it can't be taken
pub record StopsAt (p : ProgramForm) (turns : List NumberedPlace) (ss : List StructureForm)
    (e : StageError) : Type 0 where
  pub before : List NumberedPlace
  pub turn : NumberedPlace
  pub after : List NumberedPlace
  pub comes : turns ≡ before ++ turn ∷ after
  pub rows : List FocusRow
  pub at_hand : List StructureForm
  pub are : AreFocusRows p before ss rows at_hand
  pub is_cause : IsFocusCause turn.place at_hand e

-- why the turns aren't all taken
abbrev pub StopsFocus : ProgramForm → List NumberedPlace → List StructureForm → StageError → Type 0
StopsFocus p turns ss Splits = StopsAt p turns ss Splits
StopsFocus p turns ss Individuals = StopsAt p turns ss Individuals
StopsFocus p turns ss Memory = Unit {0}
