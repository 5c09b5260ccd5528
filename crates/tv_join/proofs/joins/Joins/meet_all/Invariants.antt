use Rattle.tv_work.specs.Task.{task_of}
use Rattle.tv_join.proofs.Meeting.{IsMeeting}
use Rattle.tv_join.proofs.joins.Joins.meet_all.Given as goal

abbrev pub invariant-loop-f : goal.invariant-loop-f
invariant-loop-f l = IsMeeting (task_of l.x.task) l.fn.self l.yielded l.self
