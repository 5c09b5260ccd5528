-- Structures in tables, of any size.
use Rattle.std.specs.Prelude.{ℕ, ◌≡◌, ◌==◌, ◌&&◌, Bool, List, length, map, All}
use Rattle.tv_model.specs.Program.{ProgramForm, PredForm}
use Rattle.tv_model.specs.Valid.{program_arities}
use Rattle.tv_structure_form.specs.TableForm.{IsPlane}
use Rattle.tv_structure_form.specs.StructureForm.{StructureForm, arities_of, kept_from}

-- the structure is one over the program's predicates: it has a value for each tuple of each of them, and
-- nothing else. It may have any number of individuals
pub record IsShaped (p : ProgramForm) (s : StructureForm) : Type 0 where
  pub over : arities_of s ≡ program_arities p
  pub planes : All (IsPlane s.size) s.planes
  pub summaries : length s.summaries ≡ s.size

-- the abstraction tells individuals apart by this predicate
abbrev pub is_telling : PredForm → Bool
is_telling d = d.arity == 1 && d.abs

-- the unary abstraction predicates of the program, by number
abbrev pub telling_preds : ProgramForm → List ℕ
telling_preds p = kept_from 0 (map is_telling p.preds)
