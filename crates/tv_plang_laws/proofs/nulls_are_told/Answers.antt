use Rattle.tv_plang_laws.proofs.Nulls.{nulls_are_told}
use Rattle.tv_plang_laws.proofs.nulls_are_told.Goals as goal

pub returns : goal.returns
returns c = nulls_are_told
