use Rattle.std.proofs.Common.{◌≡◌, map, get_or, false}
use Rattle.tv_names.specs.Copies.{slot_of}
use Rattle.tv_names.specs.Naming.{kept_slot}
use Rattle.tv_names.proofs.SlotLaws.{changed}
use Rattle.tv_names.proofs.naming.keep.Given as goal

abbrev pub invariant-loop-n : goal.invariant-loop-n
invariant-loop-n l = map slot_of l.slots ≡ changed (λ n slot. kept_slot (get_or l.picks.flags n false) slot) 0 l.n (map slot_of l.initial.slots)
