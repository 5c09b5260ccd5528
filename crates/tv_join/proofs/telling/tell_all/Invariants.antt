use Rattle.tv_work.specs.Task.{task_of}
use Rattle.tv_join.proofs.Greatest.{AreToldUpTo}
use Rattle.tv_join.proofs.telling.tell_all.Given as goal

abbrev pub invariant-loop-edge : goal.invariant-loop-edge
invariant-loop-edge l = AreToldUpTo (task_of l.x) l.joins.nodes l.edge l.told
