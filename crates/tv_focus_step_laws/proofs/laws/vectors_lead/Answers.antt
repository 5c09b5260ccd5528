use Rattle.tv_focus_step_laws.proofs.Above.{vectors_lead}
use Rattle.tv_focus_step_laws.proofs.laws.vectors_lead.Goals as goal

pub returns : goal.returns
returns c = vectors_lead c.lists_are_exact.ensures
