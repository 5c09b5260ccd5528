-- The values of a formula at all tuples of individuals, row by row, and what is put into a structure.
use Rattle.std.specs.Prelude.{ℕ, ◌≡◌, ◌≢◌, ◌⊎◌, List, [], ◌∷◌, length, map, replicate, Option, All, Contains}
use Rattle.std.specs.List.{range_with_len}
use Rattle.tv_kleene.specs.declared.K3.{K3}
use Rattle.tv_kleene.specs.declared.K3.TheVariants.{Half}
use Rattle.tv_model.specs.Form.{Form, IsFree}
use Rattle.tv_model.specs.Program.{ChangeForm, CFree, CTo}
use Rattle.tv_model.specs.Truth.{Assignment, put}
use Rattle.tv_model.specs.Valid.{IsVariable, IsFormulaOver}
use Rattle.tv_structure_form.specs.TableForm.{AreIndividuals, cell, row_of, column_of, row_count}
use Rattle.tv_structure_form.specs.TableForm.{column_count}
use Rattle.tv_structure_form.specs.StructureForm.{StructureForm, structure_of, arities_of, value_at}
use Rattle.tv_eval_laws.specs.Value.{value}
use Rattle.tv_eval.specs.Along.{values_along}
use Rattle.tv_eval.specs.AssignmentForm.{IsAssigned}
use Rattle.tv_eval.specs.ScratchForm.{ScratchForm, HasScratchFor}

-- the formula's values at the tuples that its variables may stand for: one value, a row, or a row for each
-- individual that the first may stand for
abbrev pub rows_for : StructureForm → Assignment → (vars : List ℕ) → Form → List (List K3)
rows_for s a [] f = (value (structure_of s) a f ∷ []) ∷ []
rows_for s a (v ∷ []) f = values_along s a v f ∷ []
rows_for s a (v ∷ w ∷ []) f = map (λ u. values_along s (put a v u) w f) (range_with_len 0 s.size)
rows_for s a (v ∷ w ∷ x ∷ more) f = []

-- Half at all tuples
abbrev pub half_rows : (size arity : ℕ) → List (List K3)
half_rows size arity = replicate (row_count size arity) (replicate (column_count size arity) Half)

-- what a change gives
abbrev pub change_rows : StructureForm → Assignment → (vars : List ℕ) → ChangeForm → List (List K3)
change_rows s a vars CFree = half_rows s.size (length vars)
change_rows s a vars (CTo f) = rows_for s a vars f

-- there is a row for each first member of a tuple, and a value for each second one
pub record AreRows (size arity : ℕ) (rows : List (List K3)) : Type 0 where
  pub count : length rows ≡ row_count size arity
  pub columns : All (λ row. length row ≡ column_count size arity) rows

-- both have the same individuals, summaries, predicates and mark
pub record IsLike (s t : StructureForm) : Type 0 where
  pub size : t.size ≡ s.size
  pub summaries : t.summaries ≡ s.summaries
  pub over : arities_of t ≡ arities_of s
  pub fresh : t.fresh ≡ s.fresh

-- t is s with the rows put for the predicate
pub record HasRows (s t : StructureForm) (pred arity : ℕ) (rows : List (List K3)) : Type 0 where
  pub like : IsLike s t
  pub others : (q : ℕ) (tuple : List ℕ) → q ≢ pred → value_at t q tuple ≡ value_at s q tuple
  pub values : (tuple : List ℕ) → length tuple ≡ arity → AreIndividuals s.size tuple
      → value_at t pred tuple ≡ cell rows (row_of tuple) (column_of tuple)

-- the formula can be evaluated at all tuples of individuals of s, put for the variables
pub record CanFill (s : StructureForm) (places : List (Option ℕ)) (vars : List ℕ) (room : ScratchForm)
    (f : Form) :
    Type 0 where
  pub formula : IsFormulaOver (arities_of s) f
  pub variables : All IsVariable vars
  pub assigned : (v : ℕ) → IsFree v f → Contains vars v ⊎ IsAssigned s.size places v
  pub fits : HasScratchFor room f s.size
