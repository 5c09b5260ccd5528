use Rattle.tv_plang_laws.proofs.Memories.{memories_have_heaps}
use Rattle.tv_plang_laws.proofs.memories_have_heaps.Goals as goal

pub returns : goal.returns
returns c = memories_have_heaps c.at_least_one_is_concrete.ensures
