use Rattle.tv_coerce_members.specs.Members.{AreLevels, members_of}
use Rattle.tv_coerce_members.proofs.levels.levels_of.Given as goal

abbrev pub invariant-loop-left : goal.invariant-loop-left
invariant-loop-left l = AreLevels (members_of l.members) l.left l.levels
