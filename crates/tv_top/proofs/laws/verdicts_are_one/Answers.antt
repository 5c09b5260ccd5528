use Rattle.tv_top.proofs.Maps.{one_verdict}
use Rattle.tv_top.proofs.laws.verdicts_are_one.Goals as goal

pub returns : goal.returns
returns c = one_verdict c.steps_are_exact.ensures
