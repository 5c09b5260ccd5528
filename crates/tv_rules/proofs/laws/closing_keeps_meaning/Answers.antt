use Rattle.tv_rules.proofs.MetByHeaps.{closing_keeps_meaning}
use Rattle.tv_rules.proofs.laws.closing_keeps_meaning.Goals as goal

pub returns : goal.returns
returns c = closing_keeps_meaning
