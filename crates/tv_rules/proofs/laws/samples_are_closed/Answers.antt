use Rattle.tv_rules.proofs.Written.{samples}
use Rattle.tv_rules.proofs.laws.samples_are_closed.Goals as goal

pub returns : goal.returns
returns c = samples
