-- What an analysis lists.
use Rattle.tv_model.specs.Program.{ProgramForm}
use Rattle.tv_stable_laws.specs.Stable.{IsStable}
use Rattle.tv_rules.specs.Closing.{closed_rules}
use Rattle.tv_structure_form.specs.StructureForm.{StructureForm, IsStructure, structure_of}
use Rattle.tv_blur.specs.Blur.{IsBlurred}
use Rattle.tv_step_laws.specs.Shaped.{IsShaped, telling_preds}

-- a structure over the program that is stable under its closed rules, and whose individuals have different
-- names and stand in their order, none marked
pub record IsSettled (p : ProgramForm) (s : StructureForm) : Type 0 where
  pub is : IsStructure s
  pub shaped : IsShaped p s
  pub stable : IsStable (closed_rules p) (structure_of s)
  pub blurred : IsBlurred (telling_preds p) s
