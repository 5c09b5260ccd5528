use Rattle.std.proofs.Common.{◌∙◌}
use Rattle.tv_row.proofs.RowOrder.{rows_mixed}
use Rattle.tv_row.proofs.row.Row.mix.Goals as goal

pub returns : goal.returns
returns c =
    rw (← c.self.view_is)
    (c.mix_words.ensures
    ∙ rows_mixed c.args.hash c.self.inside.words c.self.inside.size c.div_ceil-used.result c.self.invariant c.div_ceil-used.ensures)
