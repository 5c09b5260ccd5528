use Rattle.tv_replay_judge.proofs.Places.{NoneAbove}
use Rattle.tv_replay_judge.proofs.above.first_above.Given as goal

abbrev pub invariant-loop-place : goal.invariant-loop-place
invariant-loop-place l = NoneAbove l.s l.structures l.place
