use Rattle.std.proofs.Common.{arith, get_or, false}
use Rattle.tv_names.specs.Naming.{kept_slot}
use Rattle.tv_names.proofs.SlotLaws.{slot_changed, kept_all}
use Rattle.tv_names.proofs.naming.keep.Goals as goal

pub loop-n-preserved : goal.loop-n-preserved
loop-n-preserved c =
    slot_changed (λ n slot. kept_slot (get_or c.args.picks.flags n false) slot) _ _ _ _ _ c.loop-n.invariant (omega arith) (omega arith) (rw c.has_at.ensures at c.kept_if.ensures)

pub returns : goal.returns
returns c = kept_all c.args.picks.flags c.loop-n.n _ _ c.loop-n.invariant (omega arith)
