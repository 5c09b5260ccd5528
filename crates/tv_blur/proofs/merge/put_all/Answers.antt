use Rattle.tv_blur.proofs.FillLaws.{blank_more, merged_more}
use Rattle.tv_blur.proofs.merge.put_all.Goals as goal

pub loop-p-preserved : goal.loop-p-preserved
loop-p-preserved c = (
  merged_more c.args.classes.now c.args.s.now c.loop-p.p c.loop-p.t c.put_values.new.t c.loop-p.invariant.0
      c.put_values.ensures.changes c.put_values.ensures.values,
  blank_more c.loop-p.p c.loop-p.t c.put_values.new.t c.put_values.ensures.changes c.loop-p.invariant.1,
)
