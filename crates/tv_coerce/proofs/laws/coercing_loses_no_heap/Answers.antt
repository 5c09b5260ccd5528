use Rattle.tv_coerce.proofs.Heaps.{coercing_loses_no_heap}
use Rattle.tv_coerce.proofs.laws.coercing_loses_no_heap.Goals as goal

pub returns : goal.returns
returns c = coercing_loses_no_heap
