use Rattle.tv_structure_form.proofs.HalfLaws.{entry_halves, summary_halves}
use Rattle.tv_structure_form.proofs.laws.halves_are_counted.Goals as goal

pub returns : goal.returns
returns c = record { entries = entry_halves; summaries = summary_halves }
