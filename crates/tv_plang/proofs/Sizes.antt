-- Counts that stand still at the greatest usize.
use Rattle.std.proofs.Common.{ℕ, ◌≡◌, ◌+◌, min, arith}

-- a count, or 2 ^ 64 - 1 where it is past that
abbrev pub capped : ℕ → ℕ
capped n = min n 18446744073709551615

pub capped-step : (total one rest : ℕ) → capped (capped (total + capped one) + rest) ≡ capped (total + (one + rest))
capped-step total one rest = omega arith
