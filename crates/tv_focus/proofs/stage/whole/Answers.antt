use Rattle.std.proofs.Common.{arith}
use Rattle.std.proofs.lemmas.Grind.{common_steps}
use Rattle.tv_focus.proofs.stage.whole.Goals as goal

pub returns : goal.returns
returns c = grind (arith, common_steps) steps 40000000
