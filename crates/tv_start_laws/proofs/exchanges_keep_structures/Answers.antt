use Rattle.tv_start_laws.proofs.Branching.{exchanges_keep_structures}
use Rattle.tv_start_laws.proofs.exchanges_keep_structures.Goals as goal

pub returns : goal.returns
returns c = exchanges_keep_structures
