use Rattle.tv_top.proofs.Bounds.{bounded}
use Rattle.tv_top.proofs.laws.commands_are_bounded.Goals as goal

pub returns : goal.returns
returns c = bounded
