use Rattle.std.proofs.Common.{◌+◌, get_or, take, Contains}
use Rattle.tv_rules.specs.EntryForms.{rules_of}
use Rattle.tv_step.proofs.Noting.{preds-next, rules-more}
use Rattle.tv_step.proofs.waiting.add_all.Goals as goal

pub loop-pred-preserved : goal.loop-pred-preserved
loop-pred-preserved c =
    let preds = c.args.preds.now
    in let i = c.loop-pred.pred-index
    in rules-more (Contains (take i preds)) (Contains (take (i + 1) preds)) (get_or preds i 0)
    (rules_of c.args.x.now.closed.now) c.args.waiting.now c.loop-pred.waiting c.add_pred.new.self
    c.loop-pred.invariant c.add_pred.ensures
    (λ q at. preds-next preds i q c.loop-pred-test.true at)
