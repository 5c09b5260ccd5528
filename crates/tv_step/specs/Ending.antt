-- What is done with a coerced structure.
use Rattle.std.specs.Prelude.{◌≡◌, List}
use Rattle.tv_model.specs.declared.program.Program.{Program}
use Rattle.tv_model.specs.Program.{ProgramForm}
use Rattle.tv_blur.specs.Blur.{IsBlur}
use Rattle.tv_blur.specs.Names.{abstraction_preds}
use Rattle.tv_structure_form.specs.StructureForm.{StructureForm, IsStructure}
use Rattle.tv_step_laws.specs.Transfer.{Coerces}
use Rattle.tv_step.specs.Steps.{Ends}
use Rattle.tv_step.specs.declared.coerced.Ending.{Ending}
use Rattle.tv_step.specs.declared.coerced.Ending.TheVariants.{Open, Blurred}

-- it stays as it is where the step goes on, and is blurred where it ends
abbrev pub IsEndOf : Ending → Program → (t u : StructureForm) → Type 0
IsEndOf Open program t u = u ≡ t
IsEndOf Blurred program t u = IsBlur (abstraction_preds program.vocab) t u × IsStructure u

-- the structure is coerced and then treated so, or dropped
abbrev pub Becomes : Ending → ProgramForm → StructureForm → List StructureForm → Type 0
Becomes Open p = Coerces p
Becomes Blurred p = Ends p
