use Rattle.tv_trail_laws.specs.Trails.{IsGoal}
use Rattle.tv_trail_laws.proofs.Levels.{level-none}
use Rattle.tv_trail_laws.proofs.laws.last_levels_reach_no_goal.Goals as goal

pub returns : goal.returns
returns c = λ t asked. level-none t (IsGoal t.program asked)
