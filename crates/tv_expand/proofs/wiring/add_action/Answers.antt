use Rattle.std.proofs.Common.{◌∙◌, ap}
use Rattle.tv_expand.specs.Views.{actions_of}
use Rattle.tv_expand.proofs.WiringLaws.{added_action}
use Rattle.tv_expand.proofs.wiring.add_action.Goals as goal

pub returns : goal.returns
returns c = ap actions_of c.in_ok-insert.ensures.entries ∙ added_action c.args.actions.now.entries c.args.name c.args.action c.requires
