use Rattle.tv_structure_form.proofs.StructureLaws.{new_is_no}
use Rattle.tv_structure_form.proofs.laws.new_structures_are_no.Goals as goal

pub returns : goal.returns
returns c = new_is_no
