use Rattle.tv_focus_laws.proofs.Counts.{few_choices_have_few_halves}
use Rattle.tv_focus_laws.proofs.laws.few_choices_have_few_halves.Goals as goal

pub returns : goal.returns
returns c = few_choices_have_few_halves
