use Rattle.std.proofs.Common.{take, map}
use Rattle.tv_model.specs.Program.{update_of}
use Rattle.tv_heap_steps.specs.Settled.{AreSettled}
use Rattle.tv_heap_steps.proofs.settled.are_settled.Given as goal

abbrev pub invariant-loop-update : goal.invariant-loop-update
invariant-loop-update l = AreSettled (map update_of (take l.update-index l.updates))
