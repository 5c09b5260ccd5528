use Rattle.std.proofs.Common.{arith}
use Rattle.std.proofs.lemmas.Result.{err_from_is_err_and}
use Rattle.tv_report.proofs.NodeLaws.{one_read, one_refused, all_read}
use Rattle.tv_report.proofs.nodes.structures.Goals as goal

pub returns-in_err-found-clause-value : goal.returns-in_err-found-clause-value
returns-in_err-found-clause-value c =
    let p = err_from_is_err_and c.from_residual.result c.from_residual.ensures.1
    in rw (p.1, p.2) (one_refused c.in_err-found.field-0.0 c.loop.invariant (omega arith) c.in_err-found.ensures.value)

pub loop-preserved : goal.loop-preserved
loop-preserved c = rw c.in_ok-push.ensures.items (one_read c.loop.invariant (omega arith) c.in_ok-found.ensures.value c.in_ok-found.ensures.kept)

pub returns-clause-value : goal.returns-clause-value
returns-clause-value c = all_read c.loop.invariant (omega arith)
