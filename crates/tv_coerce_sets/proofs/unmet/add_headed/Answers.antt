use Rattle.std.proofs.Common.{arith}
use Rattle.tv_coerce.proofs.Waking.{least-fewer}
use Rattle.tv_rules.specs.EntryForms.{rules_of}
use Rattle.tv_coerce_sets.proofs.Awaiting.{headed-numbers, within-numbers}
use Rattle.tv_coerce_sets.proofs.unmet.add_headed.Goals as goal

pub add_all_headed-requires-clause-within : goal.add_all_headed-requires-clause-within
add_all_headed-requires-clause-within c k d lt =
    omega (arith, within-numbers c.args.p.0 (rules_of c.args.closed.now) c.by_pred.result.now c.by_pred.ensures k d lt, c.requires)

pub returns-then-is_so : goal.returns-then-is_so
returns-then-is_so c =
    least-fewer _ _ c.args.set.now c.add_all_headed.new.set
    (λ n at. headed-numbers c.args.flag c.args.p.0 (rules_of c.args.closed.now) c.by_pred.result.now c.by_pred.ensures n at.1)
    c.add_all_headed.ensures
