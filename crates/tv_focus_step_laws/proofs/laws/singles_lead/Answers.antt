use Rattle.tv_focus_step_laws.proofs.Above.{singles_lead}
use Rattle.tv_focus_step_laws.proofs.laws.singles_lead.Goals as goal

pub returns : goal.returns
returns c = singles_lead
