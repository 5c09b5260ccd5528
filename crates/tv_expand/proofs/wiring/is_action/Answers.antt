use Rattle.std.proofs.Common.{◌∙◌}
use Rattle.tv_expand.proofs.WiringLaws.{action_there}
use Rattle.tv_expand.proofs.wiring.is_action.Goals as goal

pub returns : goal.returns
returns c = c.contains_key.ensures ∙ action_there c.args.actions.now.entries c.args.name.now
