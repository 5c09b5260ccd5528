-- Places of structures.
use Rattle.std.specs.Prelude.{ℕ, ◌≡◌, ◌⊎◌, List, Contains}
use Rattle.tv_join.specs.declared.places.Place.{Place}

abbrev pub member_place : (node at : ℕ) → Place
member_place node at = record { node = node; at = at }

-- the place is noted beside those before
pub record Notes (place : Place) (old new : List Place) : Type 0 where
  pub has : Contains new place
  pub kept : (w : Place) → Contains old w → Contains new w
  pub only : (w : Place) → Contains new w → Contains old w ⊎ (w ≡ place)
