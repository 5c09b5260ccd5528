use Rattle.tv_coerce.proofs.Ready.{closed_rules_can_be_tried}
use Rattle.tv_coerce.proofs.laws.closed_rules_can_be_tried.Goals as goal

pub returns : goal.returns
returns c = closed_rules_can_be_tried
