use Rattle.tv_judge.proofs.StableLaws.{same-unmarked}
use Rattle.tv_judge.proofs.found.are_equal.Goals as goal

pub returns-in-Equal : goal.returns-in-Equal
returns-in-Equal c = λ t.
    same-unmarked c.args.s.now c.args.t.now (c.is_unmarked.ensures c.if-not-is_unmarked.false)
    (c.is_unmarked-else-not-is_unmarked.ensures c.if-not-is_unmarked-2.false)
    (c.compare.ensures.equal.0 c.in-Equal.is)
