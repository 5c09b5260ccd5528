use Rattle.std.proofs.Common.{arith}
use Rattle.tv_coerce_sets.proofs.unmet.stands_in_none.Goals as goal

pub returns-in-empty : goal.returns-in-empty
returns-in-empty c so k rule there stands =
    omega (arith, c.in-empty.len_below, ((c.by_pred.ensures.exact k).1 (rule, there, stands)).1)
