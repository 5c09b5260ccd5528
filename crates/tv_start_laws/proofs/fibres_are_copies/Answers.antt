use Rattle.tv_start_laws.proofs.Fibring.{fibres_are_copies}
use Rattle.tv_start_laws.proofs.fibres_are_copies.Goals as goal

pub returns : goal.returns
returns c = fibres_are_copies
