use Rattle.tv_renaming_laws.proofs.Fronts.{fronts_are_renamings}
use Rattle.tv_renaming_laws.proofs.fronts_are_renamings.Goals as goal

pub returns : goal.returns
returns c = fronts_are_renamings
