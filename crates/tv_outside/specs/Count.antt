-- Counts that stand still at the last value of a u64.
use Rattle.std.specs.Prelude.{◌≡◌, ℕ, ◌+◌, ◌-◌, ◌^◌, ◌<◌, min}

-- the last value of a count
abbrev pub count_max : ℕ
count_max = 2 ^ 64 - 1

-- the count n later, or its last value
abbrev pub counted : ℕ → ℕ → ℕ
counted old n = min (old + n) count_max

-- the count rose; one that stands at its last value is taken to have risen
abbrev pub Rose : ℕ → ℕ → Type 0
Rose old new = new < count_max → old < new

-- Of the calls in between exactly one failed, and it was the last one: the failures are one more, and since
-- the last failure no call has succeeded.
abbrev pub FailedLast : ℕ → ℕ → ℕ → Type 0
FailedLast old new since = (new ≡ counted old 1) × (since ≡ 0)
