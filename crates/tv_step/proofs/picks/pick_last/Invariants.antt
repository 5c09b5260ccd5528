use Rattle.std.proofs.Common.{◌≡◌, ◌≤◌, ◌-◌, [], All, length}
use Rattle.std.specs.List.{range_with_len}
use Rattle.tv_eval.specs.AssignmentForm.{assignment_of}
use Rattle.tv_eval.proofs.Parts.{IsLike}
use Rattle.tv_model.specs.Truth.{put}
use Rattle.tv_step_laws.specs.Parts.{AreFrom}
use Rattle.tv_step.specs.Job.{case_program, case_action, case_mode, case_structure}
use Rattle.tv_step.specs.Steps.{Adds, PicksGive, PicksKeepLimits}
use Rattle.tv_step.proofs.picks.pick_last.Given as goal

abbrev pub invariant-loop-u : goal.invariant-loop-u
invariant-loop-u l = record {
  from : l.from ≤ length l.row;
  like : IsLike l.picks l.v.0 l.here;
  out : Adds (AreFrom
      (λ u own. PicksGive (case_program l.c) (case_mode l.c) (case_action l.c) (case_structure l.c)
      [] (put (assignment_of l.picks) l.v.0 u) own)) (range_with_len 0 l.from) l.fn.out l.out;
  within : All (λ u. PicksKeepLimits (case_action l.c) (case_structure l.c) []
      (put (assignment_of l.picks) l.v.0 u)) (range_with_len 0 l.from);
  scratch : l.scratch ≡ l.fn.scratch;
}

abbrev pub decreases-loop-u : goal.decreases-loop-u
decreases-loop-u l = length l.row - l.from
