-- Structures of which no two have one key, found by their keys.
use Rattle.std.specs.Prelude.{ℕ, ◌≡◌, ◌≢◌, Bool, List, [], ◌∷◌, ◌++◌, Option, Some, None, Contains, slice_get}
use Rattle.std.specs.Prelude.{slice_set}
use Rattle.std.specs.Map.{lookup}
use Rattle.std.specs.Ordering.{is_eq}
use Rattle.tv_struct.specs.Order.{structure_cmp}
use Rattle.tv_structure_form.specs.StructureForm.{StructureForm, IsStructure}
use Rattle.tv_join.specs.Keyed.{AreFlags, SameKey, IsSkeleton}
use Rattle.tv_join.specs.Pairwise.{IsJoined}
use Rattle.tv_join.specs.declared.members.Put.{Put}
use Rattle.tv_join.specs.declared.members.Put.TheVariants.{Known, Raised, Added}

-- structures, and skeletons with the places that are noted for them
pub record MembersForm : Type 0 where
  pub structures : List StructureForm
  pub places : List (StructureForm × ℕ)

-- the place that is noted for a skeleton
abbrev pub place_in : List (StructureForm × ℕ) → StructureForm → Option ℕ
place_in places q = lookup (λ k. is_eq (structure_cmp q k)) places

-- the place that is noted for a skeleton is that of the structure with its key
pub record IsIndexed (counted : List Bool) (m : MembersForm) : Type 0 where
  pub is : (t : StructureForm) → Contains m.structures t → IsStructure t
  pub unmarked : (t : StructureForm) → Contains m.structures t → t.fresh ≡ None
  pub noted : (i : ℕ) (t q : StructureForm) → slice_get m.structures i ≡ Some t → IsSkeleton counted t q
      → place_in m.places q ≡ Some i
  pub only : (i : ℕ) (r q : StructureForm) → IsSkeleton counted r q → place_in m.places q ≡ Some i
      → (t : StructureForm) × (slice_get m.structures i ≡ Some t) × SameKey counted r t

-- s can be put among them, by these flags
abbrev pub CanPut : (counted : List Bool) → StructureForm → MembersForm → Type 0
CanPut counted s m = AreFlags counted s × (s.fresh ≡ None) × IsIndexed counted m

-- s is put into a structure of its key and changes nothing
pub record IsKnown (counted : List Bool) (old : List StructureForm) (s : StructureForm)
    (new : List StructureForm) : Type 0 where
  pub at : StructureForm
  pub has : Contains old at
  pub key : SameKey counted s at
  pub joined : IsJoined s at at
  pub same : new ≡ old

-- s is joined with the structure of its key, which is at the place, and changes it
pub record IsRaised (counted : List Bool) (old : List StructureForm) (s : StructureForm)
    (new : List StructureForm) (place : ℕ) : Type 0 where
  pub before : StructureForm
  pub after : StructureForm
  pub at : slice_get old place ≡ Some before
  pub key : SameKey counted s before
  pub joined : IsJoined s before after
  pub changed : after ≢ before
  pub set : new ≡ slice_set old place after

-- no structure has the key of s, and s is put behind them
pub record IsAdded (counted : List Bool) (old : List StructureForm) (s : StructureForm)
    (new : List StructureForm) : Type 0 where
  pub none : (t : StructureForm) → Contains old t → ¬ SameKey counted s t
  pub pushed : new ≡ old ++ s ∷ []

-- what putting s among the structures does
abbrev pub Puts : (counted : List Bool) → (old : List StructureForm) → StructureForm
    → (new : List StructureForm)
    → Put → Type 0
Puts counted old s new Known = IsKnown counted old s new
Puts counted old s new (Raised place) = IsRaised counted old s new place
Puts counted old s new Added = IsAdded counted old s new
