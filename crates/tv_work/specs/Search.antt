-- The worklist: what is listed so far, and what of it still waits to be followed.
use Rattle.std.specs.Prelude.{ℕ, ◌≡◌, ◌<◌, ◌≤◌, ◌+◌, ◌⊎◌, List, length, sum_by, if◌then◌else◌, None, Some}
use Rattle.std.specs.Prelude.{All, Contains, slice_get}
use Rattle.std.specs.Ordering.{is_eq}
use Rattle.tv_listing.specs.ListingForm.{at_node}
use Rattle.tv_structure_form.specs.StructureForm.{StructureForm}
use Rattle.tv_struct.specs.Order.{structure_cmp}
use Rattle.tv_work.specs.Reach.{Point, IsListed}
use Rattle.tv_work.specs.declared.search.Waiting.{Waiting}

pub record SearchForm : Type 0 where
  pub listing : List (List StructureForm)
  pub waiting : List Waiting
  pub count : ℕ

-- the place is that of the point
pub record StandsFor (listing : List (List StructureForm)) (w : Waiting) (x : Point) : Type 0 where
  pub node : w.node ≡ x.node
  pub structure : slice_get (at_node listing w.node) w.place ≡ Some x.structure

-- one that waits stands for the point
abbrev pub Waits : SearchForm → Point → Type 0
Waits s x = (w : Waiting) × Contains s.waiting w × StandsFor s.listing w x

-- 1 where both are equal, marks aside
abbrev pub is_same : StructureForm → StructureForm → ℕ
is_same t s = if is_eq (structure_cmp s t) then 1 else 0

-- no structure stands there twice
abbrev pub IsOnce : List StructureForm → Type 0
IsOnce structures = (t : StructureForm) → sum_by (is_same t) structures ≤ 1

-- what every search keeps
pub record IsSearch (s : SearchForm) : Type 0 where
  pub unmarked : (x : Point) → IsListed s.listing x → x.structure.fresh ≡ None
  pub places : All (λ w. w.place < length (at_node s.listing w.node)) s.waiting
  pub once : (node : ℕ) → IsOnce (at_node s.listing node)

-- what is listed was counted, and is at most `max`
pub record IsWithin (max : ℕ) (s : SearchForm) : Type 0 where
  pub count : s.count ≡ sum_by length s.listing
  pub most : s.count ≤ max

-- from the old search to the new one: nothing is lost or moved, each new point waits, and both grow alike
pub record Grows (old new : SearchForm) : Type 0 where
  pub nodes : length new.listing ≡ length old.listing
  pub placed : (w : Waiting) (x : Point) → StandsFor old.listing w x → StandsFor new.listing w x
  pub kept : (x : Point) → IsListed old.listing x → IsListed new.listing x
  pub stays : (w : Waiting) → Contains old.waiting w → Contains new.waiting w
  pub fresh : (x : Point) → IsListed new.listing x → IsListed old.listing x ⊎ Waits new x
  pub rises : old.count ≤ new.count
  pub balance : new.count + length old.waiting ≡ old.count + length new.waiting

-- the new search lists nothing else than the old one and what has the property
abbrev pub ListsOnly : (P : Point → Type 0) → (old new : SearchForm) → Type 0
ListsOnly P old new = (x : Point) → IsListed new.listing x → IsListed old.listing x ⊎ P x
