use Rattle.tv_row.proofs.DrawnBits.{taken_bits, kept_bits}
use Rattle.tv_row.proofs.bits.with_bits.Goals as goal

pub returns-clause-taken : goal.returns-clause-taken
returns-clause-taken c =
    taken_bits c.args.word c.args.other c.args.to c.args.from c.args.count c.ones_below-ones.result c.ones_below-ones.ensures c.requires.to

pub returns-clause-kept : goal.returns-clause-kept
returns-clause-kept c =
    kept_bits c.args.word c.args.other c.args.to c.args.from c.args.count c.ones_below-ones.result c.ones_below-ones.ensures c.requires.to
