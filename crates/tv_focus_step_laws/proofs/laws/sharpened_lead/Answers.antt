use Rattle.tv_focus_step_laws.proofs.Above.{sharpened_lead}
use Rattle.tv_focus_step_laws.proofs.laws.sharpened_lead.Goals as goal

pub returns : goal.returns
returns c = sharpened_lead
