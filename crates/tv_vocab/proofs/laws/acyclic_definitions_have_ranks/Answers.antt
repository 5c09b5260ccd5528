use Rattle.tv_vocab.proofs.laws.acyclic_definitions_have_ranks.Goals as goal
use Rattle.tv_vocab.proofs.CycleLaws.{acyclic_ranks}

pub returns : goal.returns
returns c = acyclic_ranks
