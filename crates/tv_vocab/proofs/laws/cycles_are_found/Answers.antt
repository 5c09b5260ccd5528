use Rattle.tv_vocab.proofs.laws.cycles_are_found.Goals as goal
use Rattle.tv_vocab.proofs.CycleLaws.{cycles_found}

pub returns : goal.returns
returns c = cycles_found
