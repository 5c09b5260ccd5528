-- The first of the numbers in a range that has a property.
use Rattle.std.specs.Prelude.{ℕ, ◌<◌, ◌≤◌, Option, MatchOption}

-- the first number from `from` on and below `end` that is, where each number is or isn't
abbrev pub IsFirstFrom : (Is IsNot : ℕ → Type 0) → (from end : ℕ) → Option ℕ → Type 0
IsFirstFrom Is IsNot from end found =
    MatchOption found
    ((c : ℕ) → from ≤ c → c < end → IsNot c)
    (λ i. (from ≤ i) × (i < end) × Is i × ((c : ℕ) → from ≤ c → c < i → IsNot c))
