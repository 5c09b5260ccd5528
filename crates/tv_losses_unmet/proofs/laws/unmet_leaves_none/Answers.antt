use Rattle.tv_losses_unmet.proofs.Closing.{unmet-leaves_none}
use Rattle.tv_losses_unmet.proofs.laws.unmet_leaves_none.Goals as goal

pub returns : goal.returns
returns c = unmet-leaves_none
