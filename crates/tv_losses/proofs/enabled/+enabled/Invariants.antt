use Rattle.std.proofs.Common.{ℕ, ◌≡◌, ◌<◌, ◌+◌, ◌*◌, length}
use Rattle.tv_eval.specs.AssignmentForm.{assignment_of}
use Rattle.tv_model.specs.Program.{picks_of}
use Rattle.tv_model.specs.Truth.{put}
use Rattle.tv_losses.specs.Cases.{action_in}
use Rattle.tv_losses.specs.Enabled.{IsEnabledWith}
use Rattle.tv_losses.proofs.enabled.+enabled.Given as goal

abbrev pub decreases-is_enabled_with : goal.decreases-is_enabled_with
decreases-is_enabled_with l = 2 * length l.left.now

abbrev pub decreases-is_enabled_by_some : goal.decreases-is_enabled_by_some
decreases-is_enabled_by_some l = 2 * length l.left.now + 1

abbrev pub invariant-is_enabled_by_some-loop-u : goal.invariant-is_enabled_by_some-loop-u
invariant-is_enabled_by_some-loop-u l = record {
  none : (u : ℕ) → u < l.u
      → ¬ IsEnabledWith (action_in l.c) l.c.from.now (picks_of l.left) (put (assignment_of l.picks) l.v.0 u);
  same : l.stepper ≡ l.fn.stepper;
}
