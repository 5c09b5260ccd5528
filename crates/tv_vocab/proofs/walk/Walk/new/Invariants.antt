use Rattle.std.proofs.Common.{◌≡◌, length}
use Rattle.tv_vocab.specs.Walk.{AllUnseen}
use Rattle.tv_vocab.proofs.walk.Walk.new.Given as goal

abbrev pub invariant-loop : goal.invariant-loop
invariant-loop l = (length l.marks.items ≡ l.counter) × AllUnseen l.marks.items
