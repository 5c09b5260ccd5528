use Rattle.tv_trace.proofs.Moves.{one_meaning}
use Rattle.tv_trace.proofs.laws.one_meaning.Goals as goal

pub returns : goal.returns
returns c = one_meaning
