use Rattle.std.proofs.Common.{◌∙◌, arith, sym}
use Rattle.tv_step.proofs.Differing.{alike-summaries}
use Rattle.tv_step.proofs.changed.are_alike.Goals as goal

pub returns-then-size : goal.returns-then-size
returns-then-size c same =
    alike-summaries c.args.s.now c.args.t.now
    (omega (arith, c.if-size.true, c.size.ensures.size, c.size-2.ensures.size))
    (sym c.summary_row.ensures ∙ c.equals.ensures.0 same ∙ c.summary_row-then-size.ensures)
