use Rattle.std.proofs.Common.{arith}
use Rattle.tv_model.specs.Program.{rule_of}
use Rattle.tv_compiled.proofs.Alike.{told_apart}
use Rattle.tv_compiled.proofs.same.are_same_rules.Goals as goal

pub returns-then-not-is_same_rule : goal.returns-then-not-is_same_rule
returns-then-not-is_same_rule c =
    told_apart rule_of c.args.a.now c.args.b.now c.loop-i.i c.index-a-i.result c.index-b-i.result
    (omega (arith, c.loop-i-test.true, c.loop-i.auto.i-end)) c.loop-i.invariant.0 c.index-a-i.is c.index-b-i.is
    c.if-not-is_same_rule.ensures.1
