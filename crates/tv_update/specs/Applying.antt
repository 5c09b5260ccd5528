-- What contracts say of an action that is applied.
use Rattle.std.specs.Prelude.{List, map}
use Rattle.tv_kleene.specs.declared.K3.{K3}
use Rattle.tv_model.specs.declared.formula.PredId.{PredId}
use Rattle.tv_model.specs.declared.program.Update.{Update}
use Rattle.tv_model.specs.Program.{program_of, action_of, update_of}
use Rattle.tv_struct.specs.declared.analysis.StageError.{StageError}
use Rattle.tv_structure_form.specs.StructureForm.{StructureForm}
use Rattle.tv_eval.specs.AssignmentForm.{assignment_of}
use Rattle.tv_eval.specs.ScratchForm.{ScratchForm}
use Rattle.tv_update.specs.declared.application.Application.{Application}
use Rattle.tv_update.specs.Plan.{IsPlanFor}
use Rattle.tv_update.specs.Update.{IsUpdateCause, IsGivenOf, IsAnswer}
use Rattle.tv_update.specs.Updated.{CanApply, AreMade, keep_values}

-- it can be applied to the structure, with this room
abbrev pub CanBeApplied : Application → StructureForm → ScratchForm → Type 0
CanBeApplied applied s room = CanApply applied.program.now applied.action.now applied.picks.now s room

-- the values of its retain formula in the middle structure
abbrev pub values_to_keep : Application → (middle : StructureForm) → List K3
values_to_keep applied middle =
    keep_values middle (assignment_of applied.picks.now) (action_of applied.action.now).retain

-- t is s with these updates, read in the middle structure
abbrev pub AreMadeIn : Application → (middle : StructureForm) → List Update → (s t : StructureForm) → Type 0
AreMadeIn applied middle updates s t =
    AreMade (program_of applied.program.now) applied.mode middle (assignment_of applied.picks.now)
    (map update_of updates) s t

-- t is the middle structure with all its updates
abbrev pub IsUpdated : Application → (middle t : StructureForm) → Type 0
IsUpdated applied middle t = AreMadeIn applied middle applied.action.now.updates middle t

-- the definitions that it changes, in order
abbrev pub IsPlanOf : Application → List PredId → Type 0
IsPlanOf applied order =
    IsPlanFor (program_of applied.program.now) applied.mode (action_of applied.action.now) order

-- the tables are what it gives from the middle structure
abbrev pub IsGivenBy : Application → (middle : StructureForm) → List StructureForm → Type 0
IsGivenBy applied middle ts =
    IsGivenOf (program_of applied.program.now) applied.mode (action_of applied.action.now)
    (assignment_of applied.picks.now) middle ts

-- all that is said of the tables, and why there are none
abbrev pub IsAnswerTo : Application → StructureForm → List StructureForm → Type 0
IsAnswerTo applied s ts =
    IsAnswer (program_of applied.program.now) applied.mode (action_of applied.action.now) s
    (assignment_of applied.picks.now) ts

abbrev pub IsCauseFor : Application → StructureForm → StageError → Type 0
IsCauseFor applied s fault =
    IsUpdateCause (action_of applied.action.now) s (assignment_of applied.picks.now) fault
