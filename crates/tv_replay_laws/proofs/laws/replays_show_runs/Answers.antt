use Rattle.tv_replay_laws.proofs.Shown.{replays_show_runs}
use Rattle.tv_replay_laws.proofs.laws.replays_show_runs.Goals as goal

pub returns : goal.returns
returns c = replays_show_runs
