use Rattle.tv_structure_form.proofs.StructureLaws.{writes_one_entry, writes_one_summary}
use Rattle.tv_structure_form.proofs.laws.entries_are_separate.Goals as goal

pub returns : goal.returns
returns c = record { values = writes_one_entry; summaries = writes_one_summary }
