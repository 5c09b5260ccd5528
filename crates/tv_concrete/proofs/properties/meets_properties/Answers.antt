-- The rules of the properties are met, where those in the list are.
use Rattle.std.proofs.Common.{◌≡◌, ◌↔◌, ◌++◌, List, All, IsTrue, IfOk, ap, ◌∙◌, subst, map}
use Rattle.tv_model.specs.Program.{RuleForm, rule_of}
use Rattle.tv_model.specs.Rules.{MeetsRule, property_rules}
use Rattle.tv_concrete.specs.Lists.{heap_of}
use Rattle.tv_concrete.proofs.properties.meets_properties.Goals as goal

pub returns : goal.returns
returns c =
    let Of : List RuleForm → Type 0 = λ rules. IfOk c.meets_rules.result
    (λ b. IsTrue b ↔ All (MeetsRule (heap_of c.args.heap.now)) rules)
    in let same : map rule_of c.as_slice.result.now ≡ property_rules c.args.p.0 c.args.props.now =
    ap (λ rules. map rule_of rules) c.as_slice.ensures ∙ c.in_ok-push_properties.ensures
    ∙ ap (λ rules. map rule_of rules ++ property_rules c.args.p.0 c.args.props.now) c.new-rules.ensures
    in subst Of same c.meets_rules.ensures
