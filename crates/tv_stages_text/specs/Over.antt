-- All structures that are recorded of a step are over a vocabulary.
use Rattle.std.specs.Prelude.{All}
use Rattle.tv_model.specs.declared.program.Vocab.{Vocab}
use Rattle.tv_stages_laws.specs.declared.record.Choice.{Choice}
use Rattle.tv_stages_laws.specs.declared.record.End.{End}
use Rattle.tv_stages_laws.specs.declared.record.End.TheVariants.{Blurred, Lost}
use Rattle.tv_stages_laws.specs.declared.record.Fate.{Fate}
use Rattle.tv_stages_laws.specs.declared.record.Fate.TheVariants.{Kept, Dropped}
use Rattle.tv_stages_laws.specs.declared.record.FocusRow.{FocusRow}
use Rattle.tv_stages_laws.specs.declared.record.FocusedAt.{FocusedAt}
use Rattle.tv_stages_laws.specs.declared.record.Given.{Given}
use Rattle.tv_stages_laws.specs.declared.record.PickedUpdate.{PickedUpdate}
use Rattle.tv_stages_laws.specs.declared.record.SlowStep.{SlowStep}
use Rattle.tv_stages_laws.specs.declared.record.UpdatedAt.{UpdatedAt}
use Rattle.tv_structure_form.specs.StructureForm.{IsOver}

abbrev pub IsFateOver : Vocab → Fate → Type 0
IsFateOver vocab (Kept t) = IsOver vocab t
IsFateOver vocab (Dropped claim) = Unit {0}

pub record IsChoiceOver (vocab : Vocab) (choice : Choice) : Type 0 where
  pub structure : IsOver vocab choice.structure
  pub fate : IsFateOver vocab choice.fate

pub record IsFocusedOver (vocab : Vocab) (focused : FocusedAt) : Type 0 where
  pub at_hand : IsOver vocab focused.at_hand
  pub choices : All (IsChoiceOver vocab) focused.choices

abbrev pub IsRowOver : Vocab → FocusRow → Type 0
IsRowOver vocab row = All (IsFocusedOver vocab) row.at_hand

abbrev pub IsEndOver : Vocab → End → Type 0
IsEndOver vocab (Blurred coerced blurred) = IsOver vocab coerced × IsOver vocab blurred
IsEndOver vocab (Lost claim) = Unit {0}

pub record IsEndedOver (vocab : Vocab) (given : Given) : Type 0 where
  pub structure : IsOver vocab given.structure
  pub end : IsEndOver vocab given.end

abbrev pub IsPickOver : Vocab → PickedUpdate → Type 0
IsPickOver vocab pick = All (IsEndedOver vocab) pick.given

pub record IsUpdatedOver (vocab : Vocab) (updated : UpdatedAt) : Type 0 where
  pub at_hand : IsOver vocab updated.at_hand
  pub picks : All (IsPickOver vocab) updated.picks

pub record IsStepOver (vocab : Vocab) (step : SlowStep) : Type 0 where
  pub start : IsFateOver vocab step.start
  pub focus : All (IsRowOver vocab) step.focus
  pub updates : All (IsUpdatedOver vocab) step.updates
  pub results : All (IsOver vocab) step.results
