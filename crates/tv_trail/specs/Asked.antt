-- What a trail is looked for by.
use Rattle.tv_model.specs.Program.{program_of}
use Rattle.tv_work.specs.Reach.{Point}
use Rattle.tv_trail_laws.specs.Trails.{IsGoal}
use Rattle.tv_trail.specs.declared.quest.Quest.{Quest}

-- the points that are goals
abbrev pub goal_of : Quest → Point → Type 0
goal_of x = IsGoal (program_of x.task.program.now) x.goal
