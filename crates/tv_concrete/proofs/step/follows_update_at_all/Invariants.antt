-- Each tuple so far follows the update.
use Rattle.std.specs.List.{AllWithin}
use Rattle.std.proofs.Common.{map}
use Rattle.tv_model.specs.Program.{update_of}
use Rattle.tv_concrete.specs.Steps.{FollowsIn}
use Rattle.tv_concrete.proofs.step.follows_update_at_all.Given as goal

abbrev pub invariant-loop-tuple : goal.invariant-loop-tuple
invariant-loop-tuple l = AllWithin (FollowsIn l.step l.q (map update_of l.updates)) l.all 0 l.tuple-index
