-- The tuples of one more are the longer ones of the shorter ones.
use Rattle.std.proofs.Common.{arith, ◌<◌}
use Rattle.tv_concrete.proofs.Lists.{tuples_of-pred}
use Rattle.tv_concrete.proofs.enumerate.+tuples.Goals as goal

pub returns : goal.returns
returns t c =
    let positive : 0 < c.args.n = omega (arith, c.if-n-eq0.false)
    in rw (← tuples_of-pred c.args.individuals.now c.args.n positive)
    (rw (← c.in_ok-shorter.ensures, ← c.as_slice.ensures) c.longer.ensures)
