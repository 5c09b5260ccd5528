use Rattle.tv_stable_laws.proofs.InHeaps.{sharpening_loses_no_heap}
use Rattle.tv_stable_laws.proofs.laws.sharpening_loses_no_heap.Goals as goal

pub returns : goal.returns
returns c = sharpening_loses_no_heap
