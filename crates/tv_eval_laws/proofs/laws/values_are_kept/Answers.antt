use Rattle.tv_eval_laws.proofs.Embedded.{values_are_kept}
use Rattle.tv_eval_laws.proofs.laws.values_are_kept.Goals as goal

pub returns : goal.returns
returns c = λ f r s t a b renames takes. values_are_kept f r s t a b renames takes
