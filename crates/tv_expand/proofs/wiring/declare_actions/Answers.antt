use Rattle.std.proofs.Common.{sym, []}
use Rattle.tv_tree.specs.Copies.{action_of}
use Rattle.tv_expand.specs.Expansion.{with_action}
use Rattle.tv_expand.proofs.StepLaws.{each_map}
use Rattle.tv_expand.proofs.wiring.declare_actions.Goals as goal

pub loop-action-init : goal.loop-action-init
loop-action-init c = rw c.new-declared.ensures.empty (sym (each_map with_action action_of c.args.actions.now []))
