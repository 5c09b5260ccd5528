-- What can be asked of a heap.
use Rattle.std.specs.Prelude.{ℕ, ◌<◌, List, Option, All, Contains, IsTrue}
use Rattle.tv_eval.specs.AssignmentForm.{IsAssigned}
use Rattle.tv_eval.specs.Formulas.{AreAssigned}
use Rattle.tv_eval.specs.ScratchForm.{ScratchForm, HasScratchFor}
use Rattle.tv_model.specs.Form.{Form}
use Rattle.tv_model.specs.Program.{ProgramForm, ActionForm}
use Rattle.tv_model.specs.Valid.{IsFormulaOver, IsValid}
use Rattle.tv_structure_form.specs.StructureForm.{StructureForm, IsStructure, arities_of}
use Rattle.tv_two_valued.specs.Laws.{IsOfProgram}
use Rattle.tv_two_valued.specs.TwoValued.{IsTwoValued}

-- the truth of the formula in the heap of s can be found
pub record CanAsk (s : StructureForm) (places : List (Option ℕ)) (room : ScratchForm)
    (f : Form) : Type 0 where
  pub structure : IsStructure s
  pub two_valued : IsTwoValued s
  pub formula : IsFormulaOver (arities_of s) f
  pub assigned : AreAssigned s.size places f
  pub fits : HasScratchFor room f s.size

-- s is a heap of the program
pub record IsHeapFor (p : ProgramForm) (s : StructureForm) : Type 0 where
  pub valid : IsValid p
  pub structure : IsStructure s
  pub two_valued : IsTwoValued s
  pub of_program : IsOfProgram p s

-- the action can be applied to the heap of s, under individuals for its picked variables
pub record CanAct (p : ProgramForm) (action : ActionForm) (s : StructureForm)
    (places : List (Option ℕ)) : Type 0 where
  pub heap : IsHeapFor p s
  pub is_action : Contains p.actions action
  pub picks : All (IsAssigned s.size places) action.picks
  pub room : IsTrue action.fresh → s.size < 256
