use Rattle.std.proofs.Common.{◌≡◌, take}
use Rattle.tv_structure_form.specs.StructureForm.{copies_from}
use Rattle.tv_struct.proofs.origins.copies.Given as goal

abbrev pub invariant-loop-u : goal.invariant-loop-u
invariant-loop-u l = l.origins.items ≡ copies_from 0 (take l.u l.parts)
