use Rattle.tv_rules.proofs.MetByHeaps.{closed_rules_are_met}
use Rattle.tv_rules.proofs.laws.closed_rules_are_met.Goals as goal

pub returns : goal.returns
returns c = closed_rules_are_met
