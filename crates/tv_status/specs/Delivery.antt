-- How long a sink is given to.
use Rattle.std.specs.Prelude.{ℕ, ◌≡◌, ◌⊎◌}
use Rattle.tv_outside.specs.Count.{FailedLast}

-- of the calls on a sink in between none failed, or exactly one did and it was the last: a sink that has
-- failed is given nothing more
abbrev pub StopsAtFailure : (old_failures new_failures since : ℕ) → Type 0
StopsAtFailure old_failures new_failures since =
    (new_failures ≡ old_failures) ⊎ FailedLast old_failures new_failures since
