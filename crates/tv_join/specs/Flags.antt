-- Which predicates count for keys, and what structures are listed.
use Rattle.std.specs.Prelude.{◌≡◌, ◌==◌, ◌||◌, Bool, List, None, map}
use Rattle.tv_model.specs.Program.{ProgramForm, PredForm}
use Rattle.tv_structure_form.specs.StructureForm.{StructureForm, IsStructure}
use Rattle.tv_step_laws.specs.Shaped.{IsShaped, is_telling}

-- the predicate counts for keys: it is nullary, or names tell it
abbrev pub is_counted : PredForm → Bool
is_counted d = d.arity == 0 || is_telling d

-- for each predicate whether it counts
abbrev pub key_flags : ProgramForm → List Bool
key_flags p = map is_counted p.preds

-- a structure over the program without a mark
pub record IsPlain (p : ProgramForm) (s : StructureForm) : Type 0 where
  pub is : IsStructure s
  pub shaped : IsShaped p s
  pub unmarked : s.fresh ≡ None
