-- What a structure says at a glance: what is about no individual or about one, and a number for it.
use Rattle.std.specs.Prelude.{ℕ, ◌≡◌, ◌≢◌, ◌%◌, ◌<◌, List, [], ◌∷◌, length, map, max, fold, replicate}
use Rattle.std.specs.Prelude.{All, Any, slice_set, slice_index, slice_index_or}
use Rattle.std.specs.List.{range_with_len}
use Rattle.tv_kleene.specs.declared.K3.{K3}
use Rattle.tv_kleene.specs.declared.K3.TheVariants.{No, Half, Yes}
use Rattle.tv_kleene.specs.Kleene.{LiesUnder, larger_of, smaller_of}
use Rattle.tv_row.specs.Bits.{paired}
use Rattle.tv_row.specs.Mixed.{mixed, row_mixed}
use Rattle.tv_structure_form.specs.StructureForm.{StructureForm, value_at, summary_at}
use Rattle.tv_struct.specs.StructureRows.{flag_value}

-- 256 values: a first one, and behind it one of each of the first 255 predicates
abbrev pub profile_of : (first : K3) → (value : ℕ → K3) → List K3
profile_of first value = first ∷ map value (range_with_len 0 255)

-- a predicate's value where it is nullary, else No
abbrev pub nullary_value : StructureForm → (pred : ℕ) → K3
nullary_value s pred = value_at s pred []

-- a predicate's value at the individual where it is unary, at the pair of it with itself where it is binary,
-- else No
abbrev pub value_near : StructureForm → (u pred : ℕ) → K3
value_near s u pred = larger_of (value_at s pred (u ∷ [])) (value_at s pred (u ∷ u ∷ []))

-- what is said about an individual: Half for a summary, else No, and the values of predicates
abbrev pub profile_near : StructureForm → (u : ℕ) → List K3
profile_near s u = profile_of (flag_value (summary_at s u)) (value_near s u)

-- what is said about no individual, and about each one
pub record GlanceForm : Type 0 where
  pub nullary : List K3
  pub unary : List (List K3)

abbrev pub glance_of : StructureForm → GlanceForm
glance_of s = record {
  nullary = profile_of No (nullary_value s);
  unary = map (profile_near s) (range_with_len 0 s.size);
}

-- each value lies under that of the other list
abbrev pub LieUnder : (below above : List K3) → Type 0
LieUnder below above =
    (place : ℕ) → LiesUnder (slice_index_or below place No) (slice_index_or above place No)

-- what is said about each individual lies under what is said about one of the others, and what is said about
-- each of these lies above what is said about one of the first
pub record MayEmbed (below above : GlanceForm) : Type 0 where
  pub nullary : LieUnder below.nullary above.nullary
  pub into : All (λ row. Any (LieUnder row) above.unary) below.unary
  pub onto : All (λ other. Any (λ row. LieUnder row other) below.unary) above.unary

-- each row has one image, and lies under no other row
pub record AreOnlyImages (rows others : List (List K3)) (images : List ℕ) : Type 0 where
  pub count : length images ≡ length rows
  pub only : (u w : ℕ) → u < length rows → w < length others
      → LieUnder (slice_index_or rows u []) (slice_index_or others w []) → w ≡ slice_index images u

-- what is said about each individual lies under what is said about its image alone
abbrev pub IsOnlyMap : (below above : GlanceForm) → (images : List ℕ) → Type 0
IsOnlyMap below above images = AreOnlyImages below.unary above.unary images

-- no value is Half at a place that is known
abbrev pub IsDefinite : (known values : List K3) → Type 0
IsDefinite known values =
    (place : ℕ) → slice_index_or known place No ≢ No → slice_index_or values place No ≢ Half

-- each place that isn't No is known: none of the values there is Half
pub record AreKnown (glance : GlanceForm) (known : List K3) : Type 0 where
  pub nullary : IsDefinite known glance.nullary
  pub unary : All (IsDefinite known) glance.unary

-- each of the 256 places that isn't No in the one list is Yes in the other
abbrev pub AreWithinMarks : (known marks : List K3) → Type 0
AreWithinMarks known marks =
    (place : ℕ) → place < 256 → slice_index_or known place No ≢ No → slice_index_or marks place No ≡ Yes

-- a number for the values at the places that are known
abbrev pub profile_number : (known values : List K3) → ℕ
profile_number known values = row_mixed 0 (paired smaller_of values known)

-- one of 61 slots, a prime number of them
abbrev pub slot_of : (known values : List K3) → ℕ
slot_of known values = profile_number known values % 61

-- Yes at the slots of the first n rows that are those of summaries, and else No
pub record AreSummariesTo (known : List K3) (rows : List (List K3)) (n : ℕ) (slots : List K3) : Type 0 where
  pub long : length slots ≡ 64
  pub marked : (u : ℕ) → u < n → slice_index_or (slice_index_or rows u []) 0 No ≡ Half
      → slice_index_or slots (slot_of known (slice_index_or rows u [])) No ≡ Yes
  pub only : (slot : ℕ) → slice_index_or slots slot No ≢ No
      → (u : ℕ) × (u < n) × (slice_index_or (slice_index_or rows u []) 0 No ≡ Half)
      × (slot_of known (slice_index_or rows u []) ≡ slot)

-- of all rows
abbrev pub AreSummaries : (known : List K3) → List (List K3) → (slots : List K3) → Type 0
AreSummaries known rows slots = AreSummariesTo known rows (length rows) slots

-- no slot that isn't No is No in the others
abbrev pub AreWithin : (slots others : List K3) → Type 0
AreWithin slots others = paired smaller_of slots others ≡ slots

-- Yes at the remainder by 251, a prime, of the number of each individual's values, else No
abbrev pub slots_of : (number : List K3 → ℕ) → List (List K3) → List K3
slots_of number rows = fold (λ slots row. slice_set slots (number row % 251) Yes) (replicate 256 No) rows

-- the greatest of these numbers
abbrev pub greatest_of : (number : List K3 → ℕ) → List (List K3) → ℕ
greatest_of number rows = fold (λ greatest row. max greatest (number row)) 0 rows

-- a number for what is said at a glance, as far as places are known: it doesn't tell how many individuals
-- have equal values, nor which of them come first
abbrev pub glance_number : (known : List K3) → GlanceForm → ℕ
glance_number known glance =
    mixed (row_mixed (profile_number known glance.nullary) (slots_of (profile_number known) glance.unary))
    (greatest_of (profile_number known) glance.unary)
