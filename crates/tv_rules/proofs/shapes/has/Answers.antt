use Rattle.tv_model.specs.declared.formula.Var.{Var}
use Rattle.tv_rules.proofs.RuleTests.{listed-at}
use Rattle.tv_rules.proofs.shapes.has.Goals as goal

pub returns-then-w-v : goal.returns-then-w-v
returns-then-w-v c =
    let d : Var = record { 0 = 0 }
    in λ _. listed-at c.args.vars.now c.loop-w.w-index d c.args.v.0 c.loop-w-test.true c.if-w-v.true
