use Rattle.tv_eval_laws.proofs.Embedded.{values_are_monotone}
use Rattle.tv_eval_laws.proofs.laws.values_are_monotone.Goals as goal

pub returns : goal.returns
returns c = λ f s t a below marks inside. values_are_monotone f s t a below marks inside
