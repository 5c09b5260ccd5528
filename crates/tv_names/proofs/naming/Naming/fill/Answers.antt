use Rattle.std.proofs.lemmas.List.{map-set}
use Rattle.tv_names.specs.Copies.{slot_of, naming_of}
use Rattle.tv_names.proofs.SlotLaws.{filled_some}
use Rattle.tv_names.proofs.naming.Naming.fill.Goals as goal

pub returns-in-Some : goal.returns-in-Some
returns-in-Some c =
    rw (map-set slot_of c.args.self.now.slots c.in-Some.n c.args.slot)
    (filled_some (slot_of c.args.slot) (naming_of c.args.self.now) c.in-Some.n c.in-Some.ensures.first)
