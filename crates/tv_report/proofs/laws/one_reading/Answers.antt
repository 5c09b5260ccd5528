use Rattle.tv_report.proofs.OneReport.{one_report}
use Rattle.tv_report.proofs.laws.one_reading.Goals as goal

pub returns : goal.returns
returns c = one_report
