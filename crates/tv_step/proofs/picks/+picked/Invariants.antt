use Rattle.std.proofs.Common.{◌≡◌, ◌+◌, ◌*◌, All, length}
use Rattle.std.specs.List.{range_with_len}
use Rattle.tv_eval.specs.AssignmentForm.{assignment_of}
use Rattle.tv_eval.proofs.Parts.{IsLike}
use Rattle.tv_model.specs.Program.{picks_of}
use Rattle.tv_model.specs.Truth.{put}
use Rattle.tv_step_laws.specs.Parts.{AreFrom}
use Rattle.tv_step.specs.Job.{case_program, case_action, case_mode, case_structure}
use Rattle.tv_step.specs.Steps.{Adds, PicksGive, PicksKeepLimits}
use Rattle.tv_step.proofs.picks.+picked.Given as goal

abbrev pub decreases-pick_left : goal.decreases-pick_left
decreases-pick_left l = 2 * length l.left.now

abbrev pub decreases-pick_each : goal.decreases-pick_each
decreases-pick_each l = 2 * length l.left.now + 1

abbrev pub invariant-pick_each-loop-u : goal.invariant-pick_each-loop-u
invariant-pick_each-loop-u l = record {
  like : IsLike l.picks l.v.0 l.here;
  out : Adds (AreFrom
      (λ u own. PicksGive (case_program l.c) (case_mode l.c) (case_action l.c) (case_structure l.c)
      (picks_of l.left) (put (assignment_of l.picks) l.v.0 u) own)) (range_with_len 0 l.u) l.fn.out l.out;
  within : All (λ u. PicksKeepLimits (case_action l.c) (case_structure l.c) (picks_of l.left)
      (put (assignment_of l.picks) l.v.0 u)) (range_with_len 0 l.u);
  scratch : l.scratch ≡ l.fn.scratch;
}
