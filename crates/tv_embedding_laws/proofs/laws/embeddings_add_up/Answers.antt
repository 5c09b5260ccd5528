use Rattle.std.proofs.Common.{◌⊎◌, inl, inr}
use Rattle.tv_embedding_laws.proofs.EmbeddingLaws.{EmbedsOn-weaken, EmbedsOn-both}
use Rattle.tv_embedding_laws.proofs.laws.embeddings_add_up.Goals as goal

pub returns : goal.returns
returns g c = λ f s t. (
  λ e. EmbedsOn-both g.P.Pick.picked g.Q.Pick.picked f s t e.0 e.1,
  λ e. (
    EmbedsOn-weaken (λ pred. g.P.Pick.picked pred ⊎ g.Q.Pick.picked pred) g.P.Pick.picked f s t (λ pred p. inl p) e,
    EmbedsOn-weaken (λ pred. g.P.Pick.picked pred ⊎ g.Q.Pick.picked pred) g.Q.Pick.picked f s t (λ pred q. inr q) e,
  ),
)
