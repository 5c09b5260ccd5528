-- The list of all variables is the one that the lemma asks for.
use Rattle.std.proofs.Common.{◌≡◌, ◌∙◌, ◌++◌, ap}
use Rattle.tv_model.specs.Program.{rule_of}
use Rattle.tv_concrete.specs.Assignments.{variables_in, head_variables}
use Rattle.tv_concrete.proofs.RuleLemmas.{free-of_result}
use Rattle.tv_concrete.proofs.rules.rule_variables.Goals as goal

pub returns : goal.returns
returns c =
    let all : c.as_slice.result.now ≡ variables_in (rule_of c.args.rule.now).body ++ head_variables
    (rule_of c.args.rule.now).head =
    c.as_slice.ensures ∙ c.in_ok-push_head.ensures
    ∙ ap (λ xs. xs ++ head_variables (rule_of c.args.rule.now).head)
    (c.in_ok-push_variables.ensures ∙ ap (λ xs. xs ++ variables_in
    (rule_of c.args.rule.now).body) c.new-all.ensures)
    in free-of_result (rule_of c.args.rule.now) c.as_slice.result.now all c.free_ones.result c.free_ones.ensures
