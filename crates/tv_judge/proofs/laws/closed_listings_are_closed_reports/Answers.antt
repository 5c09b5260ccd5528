use Rattle.tv_judge.proofs.Verdicts.{closed-report}
use Rattle.tv_judge.proofs.laws.closed_listings_are_closed_reports.Goals as goal

pub returns : goal.returns
returns c = closed-report
