use Rattle.tv_trail.proofs.Greatest.{lead-to-line}
use Rattle.tv_trail.proofs.laws.trails_lead_to_lines.Goals as goal

pub returns : goal.returns
returns c = lead-to-line
