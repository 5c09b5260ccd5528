use Rattle.tv_work.specs.Task.{task_of}
use Rattle.tv_join.proofs.Greatest.{AreToldTo}
use Rattle.tv_join.proofs.telling.tell_edge.Given as goal

abbrev pub invariant-loop-place : goal.invariant-loop-place
invariant-loop-place l = AreToldTo (task_of l.x) l.joins.nodes l.edge l.place l.initial.told l.told
