use Rattle.std.proofs.Common.{◌∙◌}
use Rattle.tv_cover.proofs.GlanceLaws.{join-rows, word-equal}
use Rattle.tv_cover.proofs.profile.is_under.Goals as goal

pub returns : goal.returns
returns c = λ under.
    c.eq.ensures
    ∙ word-equal c.join.result c.args.other
    (c.join.ensures ∙ join-rows c.args.word c.args.other c.requires under)
