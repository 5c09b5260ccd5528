-- Blank values, and the rule's free variables.
use Rattle.std.proofs.Common.{ℕ, ◌↔◌, List, IsTrue, subst}
use Rattle.tv_model.specs.Program.{rule_of}
use Rattle.tv_model.specs.Rules.{blank}
use Rattle.tv_model.specs.Truth.{Assignment}
use Rattle.tv_concrete.specs.Assignments.{EachPut, RuleTruth}
use Rattle.tv_concrete.specs.Lists.{heap_of}
use Rattle.tv_concrete.proofs.RuleLemmas.{rule-answer}
use Rattle.tv_concrete.proofs.rules.meets_rule.Goals as goal

pub returns : goal.returns
returns c =
    let Of : Assignment → Type 0 = λ a. IsTrue c.meets_for_each.result
    ↔ EachPut (heap_of c.args.heap.now) c.as_slice.result.now a
    (RuleTruth (heap_of c.args.heap.now) (rule_of c.args.rule.now))
    in let Over : List ℕ → Type 0 = λ vars. IsTrue c.meets_for_each.result
    ↔ EachPut (heap_of c.args.heap.now) vars blank (RuleTruth (heap_of c.args.heap.now) (rule_of c.args.rule.now))
    in rule-answer (heap_of c.args.heap.now)
    (rule_of c.args.rule.now) c.in_ok-vars.vars c.meets_for_each.result c.in_ok-vars.ensures
    (subst Over c.as_slice.ensures (subst Of c.blank.ensures c.meets_for_each.ensures))
