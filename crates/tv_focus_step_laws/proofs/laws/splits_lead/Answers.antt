use Rattle.tv_focus_step_laws.proofs.Above.{splits_lead}
use Rattle.tv_focus_step_laws.proofs.laws.splits_lead.Goals as goal

pub returns : goal.returns
returns c = splits_lead
