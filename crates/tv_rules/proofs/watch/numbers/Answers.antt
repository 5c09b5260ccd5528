use Rattle.tv_rules.proofs.FlagLemmas.{all-noted, places-are}
use Rattle.tv_rules.proofs.watch.numbers.Goals as goal

pub returns : goal.returns
returns c =
    places-are c.args.flags.now c.loop-number.numbers
    (all-noted c.args.flags.now c.loop-number.numbers c.loop-number.number c.loop-number-test.false c.loop-number.invariant)
