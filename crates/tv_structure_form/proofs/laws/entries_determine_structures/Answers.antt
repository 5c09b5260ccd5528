use Rattle.tv_structure_form.proofs.StructureLaws.{same_structure}
use Rattle.tv_structure_form.proofs.laws.entries_determine_structures.Goals as goal

pub returns : goal.returns
returns c = same_structure
