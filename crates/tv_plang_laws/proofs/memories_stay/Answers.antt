use Rattle.tv_plang_laws.proofs.Memories.{memories_stay}
use Rattle.tv_plang_laws.proofs.memories_stay.Goals as goal

pub returns : goal.returns
returns c = memories_stay
