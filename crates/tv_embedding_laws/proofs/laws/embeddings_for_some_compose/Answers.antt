use Rattle.tv_embedding_laws.proofs.EmbeddingLaws.{EmbedsOn-compose}
use Rattle.tv_embedding_laws.proofs.laws.embeddings_for_some_compose.Goals as goal

pub returns : goal.returns
returns g c = EmbedsOn-compose g.P.Pick.picked
