use Rattle.tv_expand.proofs.WiringLaws.{known_action, unknown_action}
use Rattle.tv_expand.proofs.wiring.find.Goals as goal

pub returns-in-Some : goal.returns-in-Some
returns-in-Some c = known_action c.args.actions.now.entries c.args.name.now c.in-Some.action.now c.in-Some.ensures.value

pub returns-in-None : goal.returns-in-None
returns-in-None c = unknown_action c.args.actions.now.entries c.args.name.now c.in-None.ensures.value
