-- What putting values into a structure keeps.
use Rattle.std.specs.Prelude.{◌≡◌, None}
use Rattle.tv_structure_form.specs.StructureForm.{StructureForm, arities_of}

-- it has the predicates that it had, and no mark
abbrev pub IsFilledFrom : (old new : StructureForm) → Type 0
IsFilledFrom old new = (arities_of new ≡ arities_of old) × (new.fresh ≡ None)
