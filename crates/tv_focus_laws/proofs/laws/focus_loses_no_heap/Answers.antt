use Rattle.tv_focus_laws.proofs.HeapChoices.{focus_loses_no_heap}
use Rattle.tv_focus_laws.proofs.laws.focus_loses_no_heap.Goals as goal

pub returns : goal.returns
returns c = focus_loses_no_heap
