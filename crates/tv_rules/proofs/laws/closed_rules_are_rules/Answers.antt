use Rattle.tv_rules.proofs.Plain.{closed_rules_are_rules}
use Rattle.tv_rules.proofs.laws.closed_rules_are_rules.Goals as goal

pub returns : goal.returns
returns c = closed_rules_are_rules
