-- Each rule so far is met.
use Rattle.std.proofs.Common.{◌↔◌, Bool, IsTrue, subst, true, false}
use Rattle.tv_model.specs.declared.program.Rule.{Rule}
use Rattle.tv_model.specs.Program.{rule_of}
use Rattle.tv_model.specs.Rules.{MeetsRule}
use Rattle.tv_concrete.specs.Lists.{heap_of}
use Rattle.tv_concrete.proofs.Every.{every-false, every-true, mapped-answer}
use Rattle.tv_concrete.proofs.rules.meets_rules.Goals as goal

pub returns-then-not-branch : goal.returns-then-not-branch
returns-then-not-branch c =
    let Answer : Bool → Type 0 = λ b. IsTrue b ↔ MeetsRule (heap_of c.args.heap.now) (rule_of c.rule-item.result)
    in mapped-answer (MeetsRule (heap_of c.args.heap.now)) rule_of c.args.rules.now false
    (every-false (λ (rule : Rule). MeetsRule (heap_of c.args.heap.now)
    (rule_of rule)) c.args.rules.now c.loop-rule.rule-index c.rule-item.result c.loop-rule-test.true c.rule-item.is
    (subst Answer c.if-not-branch.true c.in_ok-meets_rule.ensures))

pub returns : goal.returns
returns c =
    mapped-answer (MeetsRule (heap_of c.args.heap.now)) rule_of c.args.rules.now true
    (every-true (λ (rule : Rule). MeetsRule (heap_of c.args.heap.now)
    (rule_of rule)) c.args.rules.now c.loop-rule.rule-index c.loop-rule-test.false c.loop-rule.invariant)
