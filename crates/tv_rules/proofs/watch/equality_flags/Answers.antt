use Rattle.std.proofs.Common.{arith}
use Rattle.tv_model.specs.Program.{rule_of}
use Rattle.tv_rules.specs.Standing.{HasEqualityIn}
use Rattle.tv_rules.specs.Flags.{Flags}
use Rattle.tv_rules.proofs.Loops.{zip-more, zip-all}
use Rattle.tv_rules.proofs.watch.equality_flags.Goals as goal

pub loop-rule-preserved : goal.loop-rule-preserved
loop-rule-preserved c =
    zip-more (λ rule flag. Flags HasEqualityIn (rule_of rule) flag) c.args.bases.now c.loop-rule.rule-index c.rule-item.result
    c.has_equality_in.result c.loop-rule.flags.items c.push.new.self.items (omega arith) c.rule-item.is c.loop-rule.invariant
    c.has_equality_in.ensures c.in_ok-push.ensures.items

pub returns : goal.returns
returns c =
    zip-all (Flags HasEqualityIn) rule_of c.args.bases.now c.loop-rule.rule-index c.loop-rule.flags.items (omega arith)
    c.loop-rule.invariant
