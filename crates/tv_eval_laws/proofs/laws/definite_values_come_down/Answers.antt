use Rattle.tv_eval_laws.proofs.Preimages.{definite_values_come_down}
use Rattle.tv_eval_laws.proofs.laws.definite_values_come_down.Goals as goal

pub returns : goal.returns
returns c = λ f m s t a b e takes. definite_values_come_down f m s t a b e takes
