use Rattle.tv_coerce_laws.proofs.Untouched.{untouched_rules_stay_stable}
use Rattle.tv_coerce_laws.proofs.laws.untouched_rules_stay_stable.Goals as goal

pub returns : goal.returns
returns c = untouched_rules_stay_stable
