use Rattle.tv_eval_laws.proofs.Embedded.{embedding_theorem}
use Rattle.tv_eval_laws.proofs.laws.embedding_theorem.Goals as goal

pub returns : goal.returns
returns c = λ f m s t a b e takes. embedding_theorem f m s t a b e takes
