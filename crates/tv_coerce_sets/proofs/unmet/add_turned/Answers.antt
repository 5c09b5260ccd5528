use Rattle.tv_rules.specs.EntryForms.{rules_of}
use Rattle.tv_coerce_sets.proofs.Awaiting.{least-all}
use Rattle.tv_coerce_sets.proofs.unmet.add_turned.Goals as goal

pub returns : goal.returns
returns c =
    least-all c.args.turned c.args.p.0 (rules_of c.args.closed.now) c.args.set.now c.add_seeing.new.set
    c.add_seeing-2.new.set c.add_headed.new.set c.add_headed-2.new.set c.add_seeing.ensures c.add_seeing-2.ensures
    c.add_headed.ensures c.add_headed-2.ensures
