use Rattle.tv_structure_form.proofs.HalfLaws.{entry_below, summary_below}
use Rattle.tv_structure_form.proofs.laws.lowering_goes_below.Goals as goal

pub returns : goal.returns
returns c = record { entries = entry_below; summaries = summary_below }
