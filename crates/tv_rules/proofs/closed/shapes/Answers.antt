use Rattle.std.proofs.Common.{arith}
use Rattle.tv_model.specs.Program.{rule_of}
use Rattle.tv_rules.specs.Waiting.{IsShape}
use Rattle.tv_rules.proofs.Loops.{zip-more, zip-all, mapped-contains}
use Rattle.tv_rules.proofs.closed.shapes.Goals as goal

pub shape_of-requires-in-loop-rule : goal.shape_of-requires-in-loop-rule
shape_of-requires-in-loop-rule c v free =
    c.requires v (rule_of c.rule-item.result)
    (mapped-contains rule_of c.args.bases.now c.loop-rule.rule-index c.rule-item.result (omega arith) c.rule-item.is) free

pub loop-rule-preserved : goal.loop-rule-preserved
loop-rule-preserved c =
    zip-more (λ rule shape. IsShape (rule_of rule) shape) c.args.bases.now c.loop-rule.rule-index c.rule-item.result
    c.in_ok-shape_of.field-0 c.loop-rule.list c.push.new.self (omega arith) c.rule-item.is c.loop-rule.invariant c.in_ok-shape_of.ensures
    c.in_ok-push.ensures

pub returns : goal.returns
returns c =
    zip-all IsShape rule_of c.args.bases.now c.loop-rule.rule-index c.loop-rule.list (omega arith) c.loop-rule.invariant
