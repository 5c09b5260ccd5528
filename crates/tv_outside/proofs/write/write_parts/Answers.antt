use Rattle.std.proofs.Common.{rules, OnErr}
use Rattle.tv_outside.proofs.Writing.{TookFront-part}
use Rattle.tv_outside.proofs.write.write_parts.Goals as goal

pub returns-in_err-write_all-clause-front : goal.returns-in_err-write_all-clause-front
returns-in_err-write_all-clause-front g c =
    let failed : OnErr c.write_all.result _ = c.write_all.ensures.front in
    let front = rw c.in_err-write_all.was at failed in
    let all = TookFront-part _ _ _ _ _ _ _ c.loop-part-test.true c.loop-part.invariant.0 front in search rules
