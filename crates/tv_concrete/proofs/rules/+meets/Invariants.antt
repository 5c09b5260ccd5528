-- The variables become fewer; the rule is true for each individual so far.
use Rattle.std.proofs.Common.{ℕ, ◌+◌, ◌*◌, ◌<◌, length, get_or}
use Rattle.tv_model.specs.Truth.{put}
use Rattle.tv_concrete.specs.Assignments.{IsTrueFrom}
use Rattle.tv_concrete.specs.Lists.{assignment_of}
use Rattle.tv_concrete.proofs.rules.+meets.Given as goal

abbrev pub decreases-meets_for_each : goal.decreases-meets_for_each
decreases-meets_for_each l = 3 * length l.vars.now

abbrev pub decreases-meets_for_each_of : goal.decreases-meets_for_each_of
decreases-meets_for_each_of l = 3 * length l.rest.now + 2

abbrev pub decreases-meets_with : goal.decreases-meets_with
decreases-meets_with l = 3 * length l.rest.now + 1

abbrev pub invariant-meets_for_each_of-loop-u : goal.invariant-meets_for_each_of-loop-u
invariant-meets_for_each_of-loop-u l =
    (k : ℕ) → k < l.u-index
    → IsTrueFrom l.trial l.rest (put (assignment_of l.values) l.v.0 (get_or l.u-items k 0))
