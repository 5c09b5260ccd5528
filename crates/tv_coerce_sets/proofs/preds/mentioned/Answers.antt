use Rattle.tv_coerce_sets.proofs.Listing.{listed-all, listed-next, listed-none}
use Rattle.tv_coerce_sets.proofs.preds.mentioned.Goals as goal

pub loop-number-init : goal.loop-number-init
loop-number-init c = listed-none c.args.formulas.now c.new-preds.result.items

pub loop-number-preserved : goal.loop-number-preserved
loop-number-preserved c =
    listed-next c.args.formulas.now c.loop-number.number c.are_about.result c.loop-number.preds.items
    c.push_if.new.preds.items c.loop-number.invariant c.are_about.ensures c.in_ok-push_if.ensures

pub returns : goal.returns
returns c =
    listed-all c.args.formulas.now c.args.count c.loop-number.number c.loop-number.preds.items
    c.loop-number-test.false c.loop-number.invariant
