use Rattle.std.proofs.Common.{◌∙◌, sym}
use Rattle.std.specs.Prelude.{None}
use Rattle.tv_show.proofs.LabelLaws.{named_next}
use Rattle.tv_show.proofs.line.telling.Goals as goal

pub loop-p-preserved : goal.loop-p-preserved
loop-p-preserved c =
    named_next c.args.u c.loop-p.p c.args.preds.now c.args.told.now None c.requires c.loop-p-test.true
    (sym c.is_at.ensures ∙ c.if-is_at.false)
    ∙ c.loop-p.invariant
