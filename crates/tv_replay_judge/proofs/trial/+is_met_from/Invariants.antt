use Rattle.std.proofs.Common.{ℕ, ◌≡◌, ◌<◌, ◌≤◌, ◌-◌, length}
use Rattle.tv_coerce_members.specs.Members.{numbers_of}
use Rattle.tv_eval.specs.AssignmentForm.{assignment_of}
use Rattle.tv_model.specs.Truth.{put}
use Rattle.tv_two_valued.specs.TwoValued.{heap_of}
use Rattle.tv_replay_judge.specs.Trying.{IsMetFrom, implication_of}
use Rattle.tv_replay_judge.proofs.trial.+is_met_from.Given as goal

abbrev pub decreases-is_met_from : goal.decreases-is_met_from
decreases-is_met_from l = length l.rest.now

-- the individuals so far break nothing
abbrev pub invariant-loop-u : goal.invariant-loop-u
invariant-loop-u l =
    (l.evaluator ≡ l.fn.evaluator)
    × (l.from ≤ l.s.size)
    × ((k : ℕ) → k < l.from → IsMetFrom (heap_of l.s) (implication_of l.trial) (numbers_of l.rest) (put (assignment_of l.a) l.v.0 k))

abbrev pub decreases-loop-u : goal.decreases-loop-u
decreases-loop-u l = l.s.size - l.from
