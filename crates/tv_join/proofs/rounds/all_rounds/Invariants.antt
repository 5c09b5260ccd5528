use Rattle.std.proofs.Common.{◌≡◌, length}
use Rattle.tv_join.specs.Stepped.{IsAtSomeRound}
use Rattle.tv_work.specs.Task.{task_of}
use Rattle.tv_join.proofs.Rounding.{left_to_rise}
use Rattle.tv_join.proofs.rounds.all_rounds.Given as goal

abbrev pub invariant-loop-stepper : goal.invariant-loop-stepper
invariant-loop-stepper l = record {
  at : IsAtSomeRound (task_of l.x.task) l.joins l.values;
  edges : length l.values ≡ length l.x.task.program.now.edges;
  same : l.stepper ≡ l.initial.stepper;
}

abbrev pub decreases-loop-stepper : goal.decreases-loop-stepper
decreases-loop-stepper l = left_to_rise (task_of l.x.task) l.joins
