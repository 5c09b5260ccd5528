-- Which individuals of a structure those of a further one come from.
use Rattle.std.specs.Prelude.{ℕ, ◌≡◌, ◌<◌, ◌+◌, ◌↔◌, Bool, false, List, length, Contains, IsTrue, slice_index}
use Rattle.std.specs.Prelude.{slice_index_or, sum, take, count_by}
use Rattle.std.specs.List.Sorted.{IsStrictlyIncreasing}
use Rattle.tv_structure_form.specs.StructureForm.{kept_from, copies_from}

-- the kept individuals are exactly those with a true flag, in increasing order, and so many
pub record AreKept (keep : List Bool) : Type 0 where
  pub flagged : (u : ℕ) → Contains (kept_from 0 keep) u ↔ IsTrue (slice_index_or keep u false)
  pub increasing : IsStrictlyIncreasing (kept_from 0 keep)
  pub count : length (kept_from 0 keep) ≡ count_by (λ flag. flag) keep

abbrev pub KeptIndividualsAreFlagged : Type 0
KeptIndividualsAreFlagged = (keep : List Bool) → AreKept keep

-- the place of an individual's copy, the first copy being copy 0
abbrev pub copy_place : (parts : List ℕ) (u copy : ℕ) → ℕ
copy_place parts u copy = sum (take u parts) + copy

-- a place among the copies is that of one copy of one individual
pub record IsCopy (parts : List ℕ) (place : ℕ) : Type 0 where
  pub individual : ℕ
  pub copy : ℕ
  pub is_individual : individual < length parts
  pub is_copy : copy < slice_index parts individual
  pub is_place : place ≡ copy_place parts individual copy

-- an individual's copy has a place, at which the individual stands
pub record HasPlace (parts : List ℕ) (u copy : ℕ) : Type 0 where
  pub is_place : copy_place parts u copy < sum parts
  pub origin : slice_index (copies_from 0 parts) (copy_place parts u copy) ≡ u

-- places among copies are pairs of an individual and one of its copies, in order
pub record AreCopies (parts : List ℕ) : Type 0 where
  pub count : length (copies_from 0 parts) ≡ sum parts
  pub place : (u copy : ℕ) → u < length parts → copy < slice_index parts u → HasPlace parts u copy
  pub back : (place : ℕ) → place < sum parts → IsCopy parts place

abbrev pub PlacesAreCopies : Type 0
PlacesAreCopies = (parts : List ℕ) → AreCopies parts
