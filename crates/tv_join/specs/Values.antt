-- Values of messages that are kept, by edge and place.
use Rattle.std.specs.Prelude.{ℕ, ◌≡◌, ◌⊎◌, List, [], length, slice_index_or}
use Rattle.tv_kleene.specs.declared.K3.{K3}

-- the values of the edge's messages at the structure with that place, none where nothing was kept
abbrev pub values_at : List (List (List K3)) → (edge place : ℕ) → List K3
values_at values edge place = slice_index_or (slice_index_or values edge []) place []

-- no values but those of the edge at the place change
pub record ChangesAlong (edge place : ℕ) (old new : List (List (List K3))) : Type 0 where
  pub count : length new ≡ length old
  pub others : (e p : ℕ) → ((e ≡ edge) × (p ≡ place)) ⊎ (values_at new e p ≡ values_at old e p)

-- no values of a row but those at the place change
abbrev pub ChangesPlace : (place : ℕ) → (old new : List (List K3)) → Type 0
ChangesPlace place old new = (p : ℕ) → (p ≡ place) ⊎ (slice_index_or new p [] ≡ slice_index_or old p [])

-- at each place there are the values that were there before
abbrev pub AreValuesAsBefore : (old new : List (List K3)) → Type 0
AreValuesAsBefore old new = (p : ℕ) → slice_index_or new p [] ≡ slice_index_or old p []
