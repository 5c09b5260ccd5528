use Rattle.tv_focus_step_laws.proofs.Narrowing.{ordinaries_refute}
use Rattle.tv_focus_step_laws.proofs.laws.ordinaries_refute.Goals as goal

pub returns : goal.returns
returns c = ordinaries_refute
