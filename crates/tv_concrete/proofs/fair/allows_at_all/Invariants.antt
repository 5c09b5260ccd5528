-- Each tuple so far is as the change says.
use Rattle.std.specs.List.{AllWithin}
use Rattle.tv_model.specs.Program.{update_of}
use Rattle.tv_concrete.specs.Steps.{AllowsIn}
use Rattle.tv_concrete.proofs.fair.allows_at_all.Given as goal

abbrev pub invariant-loop-tuple : goal.invariant-loop-tuple
invariant-loop-tuple l = AllWithin (AllowsIn l.step l.q (update_of l.update)) l.all 0 l.tuple-index
