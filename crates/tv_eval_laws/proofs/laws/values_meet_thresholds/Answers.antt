use Rattle.tv_eval_laws.proofs.ByThresholds.{values_meet_thresholds}
use Rattle.tv_eval_laws.proofs.laws.values_meet_thresholds.Goals as goal

pub returns : goal.returns
returns c = λ certain s a f. values_meet_thresholds certain s a f
