use Rattle.tv_top.proofs.Again.{accepted_again}
use Rattle.tv_top.proofs.laws.reports_are_accepted.Goals as goal

pub returns : goal.returns
returns c = accepted_again c.one_command.ensures c.reports_are_read_again.ensures c.closed_listings_are_closed_reports.ensures
