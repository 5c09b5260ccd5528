use Rattle.tv_top.proofs.Again.{joined_accepted}
use Rattle.tv_top.proofs.laws.joined_reports_are_accepted.Goals as goal

pub returns : goal.returns
returns c = joined_accepted c.one_command.ensures c.reports_are_read_again.ensures c.closed_listings_are_closed_reports.ensures
