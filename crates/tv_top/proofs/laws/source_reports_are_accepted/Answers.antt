use Rattle.tv_top.proofs.Again.{source_accepted}
use Rattle.tv_top.proofs.laws.source_reports_are_accepted.Goals as goal

pub returns : goal.returns
returns c = source_accepted c.one_command.ensures c.reports_are_read_again.ensures c.closed_listings_are_closed_reports.ensures
