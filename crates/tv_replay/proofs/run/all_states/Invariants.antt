use Rattle.tv_replay.specs.Judging.{CanJudge}
use Rattle.tv_replay.proofs.Going.{SoFar}
use Rattle.tv_replay.proofs.run.all_states.Given as goal

abbrev pub invariant-loop-number : goal.invariant-loop-number
invariant-loop-number l = SoFar l.judge l.above l.start l.moves l.number l.states × CanJudge l.judge l.scratch
