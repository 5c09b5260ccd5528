use Rattle.tv_coerce_members.specs.Members.{members_of}
use Rattle.tv_coerce_members.specs.Pushing.{ArePushed}
use Rattle.tv_coerce_members.proofs.levels.push_steps.Given as goal

abbrev pub invariant-loop-number : goal.invariant-loop-number
invariant-loop-number l = ArePushed (members_of l.members) l.left l.last l.other 0 l.number l.initial.steps l.steps
