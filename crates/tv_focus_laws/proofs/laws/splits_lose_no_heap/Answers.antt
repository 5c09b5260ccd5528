use Rattle.tv_focus_laws.proofs.Stages.{splits_lose_no_heap}
use Rattle.tv_focus_laws.proofs.laws.splits_lose_no_heap.Goals as goal

pub returns : goal.returns
returns c = splits_lose_no_heap
