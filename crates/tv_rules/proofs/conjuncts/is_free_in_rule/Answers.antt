use Rattle.tv_model.specs.Program.{rule_of}
use Rattle.tv_rules.proofs.RuleTests.{free_in_rule-then, free_in_rule-else}
use Rattle.tv_rules.proofs.conjuncts.is_free_in_rule.Goals as goal

pub returns-then-is_free : goal.returns-then-is_free
returns-then-is_free c =
    free_in_rule-then c.args.v.0 (rule_of c.args.rule.now) c.is_free.result c.is_free.ensures c.if-is_free.true

pub returns-else-is_free : goal.returns-else-is_free
returns-else-is_free c =
    free_in_rule-else c.args.v.0 (rule_of c.args.rule.now) c.is_free.result c.stands_in_head.result c.is_free.ensures
    c.if-is_free.false c.stands_in_head.ensures
