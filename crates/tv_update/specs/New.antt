-- New structures, one for each choice of the individuals that stay.
use Rattle.std.specs.Prelude.{ℕ, ◌<◌, Bool, List, length, map}
use Rattle.std.specs.List.{AllByRecursion, AllZip}
use Rattle.tv_model.specs.declared.formula.PredId.{PredId}
use Rattle.tv_model.specs.declared.program.Program.{Program}
use Rattle.tv_model.specs.Program.{ProgramForm, program_of}
use Rattle.tv_model.specs.Valid.{IsValid}
use Rattle.tv_structure_form.specs.StructureForm.{StructureForm, IsStructure, IsOver, without}
use Rattle.tv_eval.specs.ScratchForm.{ScratchForm, IsMadeFor}
use Rattle.tv_update.specs.Defined.{AreEvaluated}
use Rattle.tv_update.specs.Plan.{IsOrdered}

-- the definitions can be evaluated in parts of the structure, in this order
pub record CanFinish (program : Program) (order : List PredId) (updated : StructureForm)
    (room : ScratchForm) : Type 0 where
  pub valid : IsValid (program_of program)
  pub over : IsOver program.vocab updated
  pub preds : AllByRecursion (λ p. p.0 < length program.vocab.preds) order
  pub ordered : IsOrdered (program_of program) (map (λ p. p.0) order)
  pub made : IsMadeFor (program_of program) 256 room

-- t has the individuals whose flag is set, and the values of the definitions
pub record IsFinished (p : ProgramForm) (order : List ℕ) (updated : StructureForm) (flags : List Bool)
    (t : StructureForm) :
    Type 0 where
  pub is : IsStructure t
  pub evaluated : AreEvaluated p order (without updated flags) t

-- such a structure for each choice, in order
abbrev pub AreFinished : ProgramForm → List ℕ → StructureForm → List (List Bool) → List StructureForm → Type 0
AreFinished p order updated choices ts = AllZip (IsFinished p order updated) choices ts
