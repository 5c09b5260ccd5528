use Rattle.tv_embedding_laws.proofs.EmbeddingLaws.{IsBelow-values}
use Rattle.tv_embedding_laws.proofs.laws.below_is_by_values.Goals as goal

pub returns : goal.returns
returns c = IsBelow-values
