use Rattle.tv_trace.proofs.Traces.{one_trace}
use Rattle.tv_trace.proofs.laws.one_reading.Goals as goal

pub returns : goal.returns
returns c = one_trace
