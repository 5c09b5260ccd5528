use Rattle.tv_row.proofs.DrawnBits.{shr_bit}
use Rattle.tv_row.proofs.bits.from.Goals as goal

pub returns : goal.returns
returns c = shr_bit c.args.word c.args.from
