use Rattle.tv_rules.proofs.Further.{further_rules_follow}
use Rattle.tv_rules.proofs.laws.further_rules_follow.Goals as goal

pub returns : goal.returns
returns c = further_rules_follow
