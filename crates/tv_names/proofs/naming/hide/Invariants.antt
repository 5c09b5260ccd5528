use Rattle.std.proofs.Common.{◌≡◌, map}
use Rattle.tv_names.specs.Copies.{slot_of}
use Rattle.tv_names.specs.Naming.{hidden_slot}
use Rattle.tv_names.proofs.SlotLaws.{changed}
use Rattle.tv_names.proofs.naming.hide.Given as goal

abbrev pub invariant-loop-n : goal.invariant-loop-n
invariant-loop-n l = map slot_of l.slots ≡ changed (λ n slot. hidden_slot l.name slot) 0 l.n (map slot_of l.initial.slots)
