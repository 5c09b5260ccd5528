use Rattle.tv_report.proofs.Again.{read_again}
use Rattle.tv_report.proofs.laws.reports_are_read_again.Goals as goal

pub returns : goal.returns
returns c = read_again
