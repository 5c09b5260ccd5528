use Rattle.tv_focus_laws.proofs.Stages.{stages_lose_no_heap}
use Rattle.tv_focus_laws.proofs.laws.stages_lose_no_heap.Goals as goal

pub returns : goal.returns
returns c = stages_lose_no_heap
