-- What contracts see of the versions in memory.
use Rattle.std.specs.Prelude.{ℕ, ◌≤◌, ◌<◌, List, [], length, get_or, drop, Option, Some, None}
use Rattle.tv_outside.specs.declared.mem_files.Place.{Place}
use Rattle.tv_outside.specs.Told.{Held}

-- files in memory
pub record FilesState : Type 0 where
  pub held : Held
  pub left : List ℕ
  pub given : ℕ
  pub begins : ℕ
  pub step : ℕ
  pub fail : List ℕ
  pub calls : ℕ
  pub faults : ℕ

-- what is left from a place on
abbrev pub left_of : List (List ℕ) → Option Place → List ℕ
left_of contents None = []
left_of contents (Some place) = drop place.at (get_or contents place.file [])

-- the place is in one of the files
abbrev pub IsWithin : List (List ℕ) → Option Place → Type 0
IsWithin contents None = Unit {0}
IsWithin contents (Some place) =
    (place.file < length contents) × (place.at ≤ length (get_or contents place.file []))

-- a sink in memory, with the room that is left in it, how many of its calls have failed, and how many have
-- succeeded since
pub record SinkState : Type 0 where
  pub taken : List ℕ
  pub room : ℕ
  pub step : ℕ
  pub fail : List ℕ
  pub calls : ℕ
  pub faults : ℕ
  pub failures : ℕ
  pub since : ℕ
