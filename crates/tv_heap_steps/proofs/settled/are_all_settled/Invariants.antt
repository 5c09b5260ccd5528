use Rattle.std.proofs.Common.{take, map}
use Rattle.tv_model.specs.Program.{action_of}
use Rattle.tv_heap_steps.specs.Settled.{AreAllSettled}
use Rattle.tv_heap_steps.proofs.settled.are_all_settled.Given as goal

abbrev pub invariant-loop-action : goal.invariant-loop-action
invariant-loop-action l = AreAllSettled (map action_of (take l.action-index l.actions))
