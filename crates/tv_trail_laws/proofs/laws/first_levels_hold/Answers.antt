use Rattle.tv_trail_laws.specs.Trails.{IsGoal}
use Rattle.tv_trail_laws.proofs.Levels.{level-first}
use Rattle.tv_trail_laws.proofs.laws.first_levels_hold.Goals as goal

pub returns : goal.returns
returns c = λ t asked. level-first t (IsGoal t.program asked)
