use Rattle.tv_eval_laws.proofs.Embedded.{values_are_local}
use Rattle.tv_eval_laws.proofs.laws.values_are_local.Goals as goal

pub returns : goal.returns
returns c = λ f s t a b alike agrees. values_are_local f s t a b alike agrees
