-- What evaluation needs, at each part of a formula.
use Rattle.std.specs.Prelude.{ℕ, List, Option}
use Rattle.tv_model.specs.Form.{Form}
use Rattle.tv_structure_form.specs.StructureForm.{StructureForm, arities_of}
use Rattle.tv_eval.specs.Formulas.{AreAssigned, HasRooms, nesting}
use Rattle.tv_model.specs.Valid.{IsFormulaOver}

-- the formula is one over the structure's predicates, its free variables stand for individuals, and
-- there is room for its closures
pub record CanEvaluate (s : StructureForm) (places : List (Option ℕ)) (sizes : List ℕ)
    (f : Form) : Type 0 where
  pub formula : IsFormulaOver (arities_of s) f
  pub assigned : AreAssigned s.size places f
  pub rooms : HasRooms s.size (nesting f) sizes
