use Rattle.tv_blur.proofs.MaskLaws.{may_one}
use Rattle.tv_blur.proofs.class.Class.of.Goals as goal

pub invariant_of-result : goal.invariant_of-result
invariant_of-result c = rw (c.new.ensures.items) (may_one c.args.u c.requires)
