use Rattle.tv_trail_laws.specs.Trails.{IsGoal}
use Rattle.tv_trail_laws.proofs.Walking.{shortest-of-level}
use Rattle.tv_trail_laws.proofs.laws.trails_of_goals_are_shortest.Goals as goal

pub returns : goal.returns
returns c = λ t asked. shortest-of-level t (IsGoal t.program asked)
