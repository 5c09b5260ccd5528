use Rattle.tv_report.proofs.Again.{one_meaning}
use Rattle.tv_report.proofs.laws.one_meaning.Goals as goal

pub returns : goal.returns
returns c = one_meaning
