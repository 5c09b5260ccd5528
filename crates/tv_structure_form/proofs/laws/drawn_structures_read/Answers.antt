use Rattle.tv_structure_form.proofs.StructureLaws.{drawn_reads}
use Rattle.tv_structure_form.proofs.laws.drawn_structures_read.Goals as goal

pub returns : goal.returns
returns c = drawn_reads
