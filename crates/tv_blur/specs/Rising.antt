-- Whether names stand in order: each individual's name beside the next one's.
use Rattle.std.specs.Prelude.{ℕ, ◌≡◌, ◌≢◌, ◌<◌, ◌≤◌, ◌+◌, ◌-◌, List, length, slice_index_or}
use Rattle.std.specs.declared.cmp.Ordering.{Ordering}
use Rattle.std.specs.declared.cmp.Ordering.TheVariants.{Less, Equal, Greater}
use Rattle.std.specs.Ordering.{ordering_then}
use Rattle.tv_kleene.specs.declared.K3.{K3}
use Rattle.tv_kleene.specs.declared.K3.TheVariants.{No, Half, Yes}
use Rattle.tv_row.specs.Bits.{value_cmp}
use Rattle.tv_structure_form.specs.StructureForm.{StructureForm, structure_of}
use Rattle.tv_blur.specs.Names.{canonical_name, name_cmp}

-- how an individual's name compares to the next one's: No where they are equal, else it is the lesser
abbrev pub order_told : K3 → Ordering
order_told No = Equal
order_told Half = Less
order_told Yes = Less

abbrev pub order_to_next : (rises : List K3) → ℕ → Ordering
order_to_next rises u = order_told (slice_index_or rises u No)

-- how an individual's value compares to the next one's
abbrev pub values_to_next : (values : List K3) → ℕ → Ordering
values_to_next values u = value_cmp (slice_index_or values u No) (slice_index_or values (u + 1) No)

-- of each individual but the last, how its name by these predicates compares to the next one's
pub record TellsRises (preds : List ℕ) (s : StructureForm) (rises : List K3) : Type 0 where
  pub long : length rises ≡ s.size - 1
  pub orders : (u : ℕ) → u < s.size - 1
      → name_cmp (canonical_name preds (structure_of s) u) (canonical_name preds (structure_of s) (u + 1))
      ≡ order_to_next rises u

-- new tells what old tells of one individual, or else what these values tell, and what old tells of others
pub record AddsRise (values : List K3) (u : ℕ) (old new : List K3) : Type 0 where
  pub long : length new ≡ length old
  pub here : order_to_next new u ≡ ordering_then (order_to_next old u) (values_to_next values u)
  pub others : (w : ℕ) → w ≢ u → slice_index_or new w No ≡ slice_index_or old w No

-- new tells what old tells of the first n, or else what these values tell, and of the others what old tells
pub record AddsRises (values : List K3) (n : ℕ) (old new : List K3) : Type 0 where
  pub long : length new ≡ length old
  pub first : (u : ℕ) → u < n
      → order_to_next new u ≡ ordering_then (order_to_next old u) (values_to_next values u)
  pub rest : (u : ℕ) → n ≤ u → slice_index_or new u No ≡ slice_index_or old u No

-- the values tell that the first of two is the greater, where old tells nothing
abbrev pub Falls : (values old : List K3) → Type 0
Falls values old =
    (u : ℕ) × (u < length old) × (ordering_then (order_to_next old u) (values_to_next values u) ≡ Greater)
