use Rattle.tv_expand.proofs.OriginLaws.{rules_have_origins}
use Rattle.tv_expand.proofs.laws.each_rule_has_origin.Goals as goal

pub returns : goal.returns
returns c = rules_have_origins
