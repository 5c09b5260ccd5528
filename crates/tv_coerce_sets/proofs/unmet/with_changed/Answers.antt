use Rattle.std.proofs.Common.{◌∙◌, length, ap}
use Rattle.tv_rules.specs.EntryForms.{rules_of}
use Rattle.tv_coerce_sets.proofs.Awaiting.{more-among, same-among, unruled-among}
use Rattle.tv_coerce_sets.proofs.Turning.{same-values}
use Rattle.tv_coerce_sets.proofs.unmet.with_changed.Goals as goal

pub returns-then-stands_in_none : goal.returns-then-stands_in_none
returns-then-stands_in_none c = λ preds before.
    unruled-among preds c.args.p.0 (rules_of c.args.closed.now) c.args.from.now c.args.s.now c.args.found before
    (c.stands_in_none.ensures c.if-stands_in_none.true)

pub returns-then-is_nothing : goal.returns-then-is_nothing
returns-then-is_nothing c = λ preds before.
    same-among preds c.args.p.0 (rules_of c.args.closed.now) c.args.from.now c.args.s.now c.args.found c.requires.size
    before
    (same-values c.turned_values-turned.result c.args.p.0 c.args.from.now c.args.s.now
    (c.is_nothing.ensures c.if-is_nothing.true) c.turned_values-turned.ensures)

pub add_turned-requires : goal.add_turned-requires
add_turned-requires c = ap length c.in_ok-set.ensures ∙ c.requires.count

pub returns : goal.returns
returns c = λ preds before.
    more-among preds c.args.p.0 (rules_of c.args.closed.now) c.args.from.now c.args.s.now c.turned_values-turned.result
    c.args.found c.in_ok-set.set c.add_turned.new.set c.requires.size c.turned_values-turned.ensures before
    c.in_ok-set.ensures c.add_turned.ensures
