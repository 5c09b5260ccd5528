use Rattle.tv_rules.proofs.Free.{tests_are_right}
use Rattle.tv_rules.proofs.laws.tests_are_right.Goals as goal

pub returns : goal.returns
returns c = tests_are_right
