use Rattle.tv_start_laws.proofs.Leaves.{leaves_are_copies}
use Rattle.tv_start_laws.proofs.leaves_are_copies.Goals as goal

pub returns : goal.returns
returns c = leaves_are_copies
