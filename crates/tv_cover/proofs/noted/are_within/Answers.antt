use Rattle.std.proofs.Common.{◌∙◌}
use Rattle.tv_cover.proofs.GlanceLaws.{word-equal}
use Rattle.tv_cover.proofs.noted.are_within.Goals as goal

pub returns : goal.returns
returns c = λ within. c.eq.ensures ∙ word-equal c.and.result c.args.slots (c.and.ensures ∙ within)
