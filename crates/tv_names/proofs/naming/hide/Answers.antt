use Rattle.std.proofs.Common.{arith}
use Rattle.tv_names.proofs.SlotLaws.{slot_changed, hidden_all}
use Rattle.tv_names.proofs.naming.hide.Goals as goal

pub loop-n-preserved : goal.loop-n-preserved
loop-n-preserved c = slot_changed _ _ _ _ _ _ c.loop-n.invariant (omega arith) (omega arith) c.hide.ensures

pub returns : goal.returns
returns c = hidden_all c.args.name.now c.loop-n.n _ _ c.loop-n.invariant (omega arith)
