use Rattle.tv_judge.proofs.Accepting.{closed-accepted}
use Rattle.tv_judge.proofs.laws.closed_reports_are_accepted.Goals as goal

pub returns : goal.returns
returns c = closed-accepted
