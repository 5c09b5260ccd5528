use Rattle.std.proofs.Common.{sym}
use Rattle.tv_show.proofs.Walked.{no_yes, one_yes, two_yes}
use Rattle.tv_show.proofs.line.only_yes.Goals as goal

pub returns-in-None : goal.returns-in-None
returns-in-None c = sym (no_yes c.args.row.now c.in-None.ensures)

pub returns-in-None-next_yes : goal.returns-in-None-next_yes
returns-in-None-next_yes c =
    sym (one_yes c.args.row.now c.in-Some.first c.in-Some.ensures.1 c.in-Some.ensures.2 c.in-Some.ensures.3 c.in-None-next_yes.ensures)

pub returns-in-Some-next_yes : goal.returns-in-Some-next_yes
returns-in-Some-next_yes c =
    sym (two_yes c.args.row.now c.in-Some.first c.in-Some-next_yes.field-0 c.in-Some.ensures.2 c.in-Some.ensures.3
    c.in-Some-next_yes.ensures.0 c.in-Some-next_yes.ensures.1 c.in-Some-next_yes.ensures.2 c.in-Some-next_yes.ensures.3)
