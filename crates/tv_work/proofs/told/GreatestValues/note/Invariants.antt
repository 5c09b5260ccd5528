use Rattle.std.proofs.Common.{◌≡◌, ◌≤◌, length}
use Rattle.std.specs.Prelude.{max}
use Rattle.tv_work.proofs.Larger.{AreRaisedTo}
use Rattle.tv_work.proofs.told.GreatestValues.note.Given as goal

abbrev pub invariant-loop-number : goal.invariant-loop-number
invariant-loop-number l = record {
  within : l.number ≤ length l.values;
  raised : AreRaisedTo l.number l.values l.initial.self l.self;
  count : length l.self ≡ max l.number (length l.initial.self);
}
