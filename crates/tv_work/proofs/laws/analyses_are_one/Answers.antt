use Rattle.tv_work.proofs.Single.{one_analysis}
use Rattle.tv_work.proofs.laws.analyses_are_one.Goals as goal

pub returns : goal.returns
returns c = one_analysis
