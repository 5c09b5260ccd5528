use Rattle.std.proofs.Common.{◌≡◌, ◌++◌, take}
use Rattle.tv_replay.specs.Text.{later_texts}
use Rattle.tv_replay.proofs.write.write_later.Given as goal

abbrev pub invariant-loop-state : goal.invariant-loop-state
invariant-loop-state l =
    (l.number ≡ l.state-index) × (l.out.items ≡ l.initial.out.items ++ later_texts l.program 1 (take l.state-index l.later))
