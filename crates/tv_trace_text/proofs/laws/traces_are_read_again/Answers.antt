use Rattle.tv_trace_text.proofs.Again.{read_again}
use Rattle.tv_trace_text.proofs.laws.traces_are_read_again.Goals as goal

pub returns : goal.returns
returns c = read_again
