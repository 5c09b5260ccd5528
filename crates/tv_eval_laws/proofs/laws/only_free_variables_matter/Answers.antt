use Rattle.tv_eval_laws.proofs.Agreed.{only_free_variables_matter}
use Rattle.tv_eval_laws.proofs.laws.only_free_variables_matter.Goals as goal

pub returns : goal.returns
returns c = λ s f a b same. only_free_variables_matter s f a b same
