use Rattle.std.proofs.Common.{ℕ, ◌≡◌, ◌<◌, ◌≤◌, ◌-◌, false}
use Rattle.tv_row.specs.FlagWords.{flag_at}
use Rattle.tv_row.proofs.flags.Flags.next_true.Given as goal

abbrev pub invariant-loop-at : goal.invariant-loop-at
invariant-loop-at l = (l.fn.from ≤ l.at) × ((n : ℕ) → l.fn.from ≤ n → n < l.at → flag_at l.self-inside.words.items n ≡ false)

abbrev pub decreases-loop-at : goal.decreases-loop-at
decreases-loop-at l = l.self-inside.count - l.at
