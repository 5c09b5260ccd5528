use Rattle.std.proofs.Common.{refl}
use Rattle.tv_expand.proofs.wiring.call_params.Goals as goal

pub loop-i-init : goal.loop-i-init
loop-i-init c = rw c.new-bound.ensures.empty refl
