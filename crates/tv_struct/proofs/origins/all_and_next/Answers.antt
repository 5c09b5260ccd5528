use Rattle.std.proofs.Common.{◌∙◌, length, ap, arith}
use Rattle.std.proofs.lemmas.List.FromFn.{length-range_with_len}
use Rattle.tv_struct.proofs.origins.all_and_next.Goals as goal

pub returns-clause-count : goal.returns-clause-count
returns-clause-count c = ap length c.loop-u.invariant ∙ length-range_with_len 0 c.loop-u.u ∙ omega arith
