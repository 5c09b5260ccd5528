-- What an action makes of a heap, before values are given and definitions evaluated.
use Rattle.std.specs.Prelude.{ℕ, List, filter}
use Rattle.std.specs.List.{range_with_len}
use Rattle.tv_update_laws.specs.Applied.{IsNew, keep_value}
use Rattle.tv_update_laws.specs.Choices.{stays_in}
use Rattle.tv_update_laws.specs.Tables.{IsGivenOver, middle_table}
use Rattle.tv_model.specs.Program.{ProgramForm, ActionForm}
use Rattle.tv_model.specs.Truth.{Assignment}
use Rattle.tv_model.specs.declared.program.Mode.TheVariants.{Given}
use Rattle.tv_structure_form.specs.StructureForm.{StructureForm, structure_of}
use Rattle.tv_two_valued.specs.TwoValued.{is_yes}

-- the individuals of the middle structure of which the retain formula is Yes
abbrev pub kept_of : ActionForm → Assignment → StructureForm → List ℕ
kept_of action picked s =
    filter (λ u. is_yes (keep_value (structure_of (middle_table action.fresh s)) picked action.retain u))
    (range_with_len 0 (middle_table action.fresh s).size)

-- t has these individuals, and each predicate as its update says, also where it is defined
pub record IsUpdatedTo (p : ProgramForm) (action : ActionForm) (picked : Assignment)
    (s t : StructureForm) : Type 0 where
  pub over : IsGivenOver s t
  pub made : IsNew p Given action picked (structure_of (middle_table action.fresh s))
      (stays_in (kept_of action picked s)) (structure_of t)
