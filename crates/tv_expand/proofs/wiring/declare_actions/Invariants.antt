use Rattle.std.proofs.Common.{◌≡◌, drop, map, []}
use Rattle.tv_tree.specs.Copies.{action_of}
use Rattle.tv_expand.specs.Outcome.{each}
use Rattle.tv_expand.specs.Expansion.{with_action}
use Rattle.tv_expand.specs.Views.{actions_of}
use Rattle.tv_expand.proofs.wiring.declare_actions.Given as goal

-- the actions so far and those that are left give what all give
abbrev pub invariant-loop-action : goal.invariant-loop-action
invariant-loop-action l = each (λ a. with_action (action_of a)) (drop l.action-index l.actions) (actions_of l.declared.entries) ≡ each with_action (map action_of l.actions) []
