-- The closed edges of a closure.
use Rattle.std.specs.Prelude.{ℕ, ◌≡◌, ◌<◌, List}
use Rattle.std.specs.List.{range_with_len}
use Rattle.tv_kleene.specs.declared.K3.{K3}
use Rattle.tv_model.specs.Form.{Form}
use Rattle.tv_model.specs.Truth.{Assignment, put}
use Rattle.tv_structure_form.specs.StructureForm.{StructureForm, structure_of}
use Rattle.tv_eval_laws.specs.Value.{value, best_walk}
use Rattle.tv_row.specs.Places.{entry_in}
use Rattle.tv_quantifiers.specs.Rows.{IsSquare}

-- the rows hold the values of the body's closure in the structure under the assignment
pub record HoldsClosure (s : StructureForm) (a : Assignment) (left right : ℕ) (body : Form)
    (rows : List (List K3)) : Type 0 where
  pub square : IsSquare s.size rows
  pub entries : (u w : ℕ) → u < s.size → w < s.size
      → entry_in rows u w ≡ best_walk (λ x y. value (structure_of s) (put (put a left x) right y) body)
      (range_with_len 0 s.size) u w
