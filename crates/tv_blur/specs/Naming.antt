-- Names by rows of values, and the classes of the first individuals by their names.
use Rattle.std.specs.Prelude.{ℕ, ◌≡◌, ◌<◌, ◌≤◌, ◌++◌, List, [], ◌∷◌, length, map, All, Bool, if◌then◌else◌}
use Rattle.std.specs.Prelude.{Contains, slice_index, slice_index_or}
use Rattle.std.specs.declared.cmp.Ordering.TheVariants.{Less}
use Rattle.tv_kleene.specs.declared.K3.{K3}
use Rattle.tv_kleene.specs.declared.K3.TheVariants.{No}
use Rattle.tv_structure_form.specs.StructureForm.{StructureForm, structure_of}
use Rattle.tv_blur.specs.declared.names.CanonicalNames.{CanonicalNames}
use Rattle.tv_blur.specs.Names.{canonical_name, name_cmp}
use Rattle.tv_blur.specs.Classes.{class_at}

-- the structure whose individuals they are of
abbrev pub named_in : CanonicalNames → StructureForm
named_in names = names.structure.now

-- the values of an individual in the rows
abbrev pub name_in_rows : (rows : List (List K3)) → ℕ → List K3
name_in_rows rows u = map (λ row. slice_index_or row u No) rows

abbrev pub canonical_name_in : CanonicalNames → ℕ → List K3
canonical_name_in names u = name_in_rows names.rows.items u

-- each row has a value of each individual, and by these values names compare as by those of the predicates
pub record TellNames (preds : List ℕ) (s : StructureForm) (rows : List (List K3)) : Type 0 where
  pub long : All (λ row. length row ≡ s.size) rows
  pub alike : (u w : ℕ) → u < s.size → w < s.size
      → name_cmp (name_in_rows rows u) (name_in_rows rows w)
      ≡ name_cmp (canonical_name preds (structure_of s) u) (canonical_name preds (structure_of s) w)

-- new rows tell names by one more predicate, where they are told apart by it
abbrev pub AddsRow : (told : Bool) → StructureForm → (pred : ℕ) → (old new : List (List K3)) → Type 0
AddsRow told s pred old new =
    (preds : List ℕ) → TellNames preds s old → TellNames (preds ++ (if told then pred ∷ [] else [])) s new

-- each row has a value of each individual
abbrev pub HoldsNames : CanonicalNames → Type 0
HoldsNames names = All (λ row. length row ≡ (named_in names).size) names.rows.items

-- the names of the individuals of the structure by the predicates
pub record AreNames (preds : List ℕ) (s : StructureForm) (names : CanonicalNames) : Type 0 where
  pub of : named_in names ≡ s
  pub tell : TellNames preds s names.rows.items

-- the name of a class: that of its first member
abbrev pub class_name : CanonicalNames → List (List ℕ) → ℕ → List K3
class_name names classes w = canonical_name_in names (slice_index (class_at classes w) 0)

-- a class of some of the first n individuals, which stand in order and have one name
pub record IsClass (names : CanonicalNames) (n : ℕ) (members : List ℕ) : Type 0 where
  pub some : 0 < length members
  pub within : (u : ℕ) → Contains members u → u < n
  pub one : (u : ℕ) → Contains members u
      → canonical_name_in names u ≡ canonical_name_in names (slice_index members 0)
  pub rises : 1 < length members → slice_index members 0 < slice_index members 1

-- the classes of the first n individuals by their names, in the order of these
pub record IsGathered (names : CanonicalNames) (n : ℕ) (classes : List (List ℕ)) : Type 0 where
  pub few : length classes ≤ n
  pub each : (w : ℕ) → w < length classes → IsClass names n (class_at classes w)
  pub order : (w x : ℕ) → w < x → x < length classes
      → name_cmp (class_name names classes w) (class_name names classes x) ≡ Less
  pub all : (u : ℕ) → u < n → (w : ℕ) × (w < length classes) × Contains (class_at classes w) u
