use Rattle.tv_embedding_laws.proofs.EmbeddingLaws.{EmbedsOn-id, EmbedsOn-compose, KeepsMark-id}
use Rattle.tv_embedding_laws.proofs.EmbeddingLaws.{KeepsMark-compose}
use Rattle.tv_embedding_laws.proofs.laws.embeddings_compose.Goals as goal

pub returns : goal.returns
returns c = record {
  identity = λ s. (EmbedsOn-id (λ pred. Unit {0}) s, KeepsMark-id s);
  composed = EmbedsOn-compose (λ pred. Unit {0});
  composed_with_marks = λ f g r s t a b.
      (EmbedsOn-compose (λ pred. Unit {0}) f g r s t a.0 b.0, KeepsMark-compose f g r s t a.0 a.1 b.1);
}
