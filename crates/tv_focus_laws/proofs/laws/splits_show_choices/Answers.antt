use Rattle.tv_focus_laws.proofs.Splits.{splits_show_choices}
use Rattle.tv_focus_laws.proofs.laws.splits_show_choices.Goals as goal

pub returns : goal.returns
returns c = splits_show_choices
