use Rattle.tv_update_laws.proofs.Counts.{choices_are_counted}
use Rattle.tv_update_laws.proofs.laws.choices_are_counted.Goals as goal

pub returns : goal.returns
returns c = choices_are_counted
