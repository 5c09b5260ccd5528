use Rattle.tv_trail_laws.specs.Trails.{IsGoal}
use Rattle.tv_trail_laws.proofs.Levels.{level-next}
use Rattle.tv_trail_laws.proofs.laws.next_levels_hold.Goals as goal

pub returns : goal.returns
returns c = λ t asked. level-next t (IsGoal t.program asked)
