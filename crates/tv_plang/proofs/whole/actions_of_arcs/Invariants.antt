use Rattle.std.proofs.Common.{◌≡◌, map}
use Rattle.tv_model.specs.Program.{action_of}
use Rattle.tv_plang.specs.Arcs.{arcs_of}
use Rattle.tv_plang.proofs.whole.actions_of_arcs.Given as goal

abbrev pub invariant-loop-arc : goal.invariant-loop-arc
invariant-loop-arc l = map action_of l.actions.items ≡ map (λ a. a.action) (arcs_of l.yielded)
