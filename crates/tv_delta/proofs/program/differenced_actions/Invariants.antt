use Rattle.std.proofs.Common.{map, take}
use Rattle.std.specs.List.{AllZip}
use Rattle.tv_model.specs.Program.{program_of, action_of}
use Rattle.tv_delta_laws.specs.Differences.{IsDifferencedAction}
use Rattle.tv_delta.proofs.program.differenced_actions.Given as goal

abbrev pub invariant-loop-action : goal.invariant-loop-action
invariant-loop-action l =
    AllZip (IsDifferencedAction (program_of l.program)) (map action_of (take l.action-index l.actions))
    (map action_of l.out.items)
