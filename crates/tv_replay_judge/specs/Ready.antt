-- What can be judged: a heap of a program, given by a structure.
use Rattle.std.specs.Prelude.{◌≡◌, map}
use Rattle.tv_eval.specs.ScratchForm.{ScratchForm, IsMadeFor}
use Rattle.tv_model.specs.Program.{ProgramForm}
use Rattle.tv_model.specs.Valid.{IsValid}
use Rattle.tv_structure_form.specs.StructureForm.{StructureForm, IsStructure, arities_of}
use Rattle.tv_two_valued.specs.TwoValued.{IsTwoValued}

-- the structure stands for a heap over the predicates of the program, which is valid, and there is room to
-- evaluate the program's formulas in it
pub record IsReadyToEvaluate (p : ProgramForm) (s : StructureForm) (scratch : ScratchForm) : Type 0 where
  pub valid : IsValid p
  pub structure : IsStructure s
  pub two_valued : IsTwoValued s
  pub arities : arities_of s ≡ map (λ d. d.arity) p.preds
  pub room : IsMadeFor p 256 scratch
