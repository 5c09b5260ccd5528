use Rattle.std.proofs.Common.{List, Contains, subst}
use Rattle.tv_model.specs.Program.{rule_of}
use Rattle.tv_model.specs.Rules.{IsFreeInRule}
use Rattle.tv_model.specs.declared.formula.Var.{Var}
use Rattle.tv_rules.specs.EntryForms.{numbers_of}
use Rattle.tv_rules.proofs.RuleTests.{noted, noted-there}
use Rattle.tv_rules.proofs.shapes.note.Goals as goal

pub returns-then-has : goal.returns-then-has
returns-then-has c =
    noted-there (λ w. IsFreeInRule w (rule_of c.args.rule.now)) c.args.vars.now c.args.v
    (subst (λ (vs : List Var). Contains (numbers_of vs) c.args.v.0) c.as_slice.ensures (c.has.ensures c.if-has.true))

pub returns-in_ok-push : goal.returns-in_ok-push
returns-in_ok-push c =
    noted (λ w. IsFreeInRule w (rule_of c.args.rule.now)) c.args.vars.now c.push.new.self c.args.v c.in_ok-push.ensures
    (c.is_free_in_rule.ensures.0 c.if-is_free_in_rule.true)
