use Rattle.tv_rules.proofs.MetByHeaps.{base_rules_are_met}
use Rattle.tv_rules.proofs.laws.base_rules_are_met.Goals as goal

pub returns : goal.returns
returns c = base_rules_are_met
