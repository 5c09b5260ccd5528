use Rattle.std.proofs.Common.{◌≡◌, take}
use Rattle.tv_cover.specs.Glance.{profile_number, slots_of, greatest_of}
use Rattle.tv_cover.proofs.glance.Glance.number.Given as goal

abbrev pub invariant-loop-row : goal.invariant-loop-row
invariant-loop-row l = record {
  slots : l.slots ≡ slots_of (profile_number l.known) (take l.row-index l.self.unary);
  greatest : l.greatest ≡ greatest_of (profile_number l.known) (take l.row-index l.self.unary);
}
