use Rattle.tv_focus_step_laws.proofs.Narrowing.{vectors_refute}
use Rattle.tv_focus_step_laws.proofs.laws.vectors_refute.Goals as goal

pub returns : goal.returns
returns c = vectors_refute
