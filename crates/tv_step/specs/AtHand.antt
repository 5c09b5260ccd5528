-- What is at hand of a structure along an edge, before the edge's action picks and updates.
use Rattle.std.specs.Prelude.{ℕ, List, Result, IfOk, IfErr, All}
use Rattle.tv_model.specs.Program.{ProgramForm, ActionForm}
use Rattle.tv_structure_form.specs.StructureForm.{StructureForm}
use Rattle.tv_struct.specs.declared.analysis.StageError.{StageError}
use Rattle.tv_struct.specs.declared.analysis.StageError.TheVariants.{Splits, Individuals, Memory}
use Rattle.tv_step_laws.specs.Budgets.{HasManyFoci, HasLargeChoice}
use Rattle.tv_step_laws.specs.Shaped.{IsShaped}
use Rattle.tv_step_laws.specs.Transfer.{AreAtHand, IsActionOf, focus_places}

-- why focus fails: an atom has too many choices in a structure at hand, or too large a one
abbrev pub IsFocusFault : ProgramForm → ActionForm → StructureForm → StageError → Type 0
IsFocusFault p action s Splits = HasManyFoci p action s
IsFocusFault p action s Individuals = HasLargeChoice p action s
IsFocusFault p action s Memory = Unit {0}

-- the answer has what coerce, and the focus of the edge's action, leave at hand of the structure; it is an
-- error only where focus fails
pub record FindsAtHand (p : ProgramForm) (edge : ℕ) (s : StructureForm)
    (answer : Result (List StructureForm) StageError) : Type 0 where
  pub are : (action : ActionForm) → IsActionOf p edge action
      → IfOk answer (AreAtHand p (focus_places action.focus) s)
  pub shaped : IfOk answer (All (IsShaped p))
  pub cause : (action : ActionForm) → IsActionOf p edge action → IfErr answer (IsFocusFault p action s)
