use Rattle.tv_start_laws.proofs.Branching.{branches_lose_no_heap}
use Rattle.tv_start_laws.proofs.branches_lose_no_heap.Goals as goal

pub returns : goal.returns
returns c = branches_lose_no_heap
