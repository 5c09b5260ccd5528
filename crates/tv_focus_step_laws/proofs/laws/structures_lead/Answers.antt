use Rattle.tv_focus_step_laws.proofs.Above.{structures_lead}
use Rattle.tv_focus_step_laws.proofs.laws.structures_lead.Goals as goal

pub returns : goal.returns
returns c = structures_lead c.lists_are_exact.ensures
