use Rattle.tv_rules.proofs.Dropping.{dropping_keeps_meaning}
use Rattle.tv_rules.proofs.laws.dropping_keeps_meaning.Goals as goal

pub returns : goal.returns
returns c = dropping_keeps_meaning
