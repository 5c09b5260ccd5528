use Rattle.tv_focus_step_laws.proofs.Above.{whole_coerce_alike}
use Rattle.tv_focus_step_laws.proofs.laws.whole_coerce_alike.Goals as goal

pub returns : goal.returns
returns c = whole_coerce_alike
