-- The classes of individuals that have one name, and the values that are merged.
use Rattle.std.specs.Prelude.{ℕ, ◌≡◌, ◌≢◌, ◌↔◌, ◌<◌, ◌≤◌, None, ◌||◌, Bool, nat_lt, List, [], length, All}
use Rattle.std.specs.Prelude.{Contains, Option, IfSome, slice_index, slice_index_or}
use Rattle.std.specs.List.{AllZip}
use Rattle.tv_kleene.specs.declared.K3.{K3}
use Rattle.tv_kleene.specs.declared.K3.TheVariants.{No, Half, Yes}
use Rattle.tv_structure_form.specs.TableForm.{HasEntry}
use Rattle.tv_structure_form.specs.StructureForm.{StructureForm, table_of, value_at, summary_at, arities_of}
use Rattle.tv_blur.specs.Merged.{IsJoin}

-- the members of the class at a place
abbrev pub class_at : List (List ℕ) → ℕ → List ℕ
class_at classes w = slice_index_or classes w []

-- 256 flags: Yes for each of the members, else No
pub record IsMask (members : List ℕ) (mask : List K3) : Type 0 where
  pub long : length mask ≡ 256
  pub flags : (u : ℕ) → slice_index_or mask u No ≢ Half
  pub members_of : (u : ℕ) → (slice_index_or mask u No ≡ Yes) ↔ Contains members u

-- the members have places in a mask, and if there is one, it is theirs
pub record MayHaveMask (members : List ℕ) (mask : Option (List K3)) : Type 0 where
  pub small : All (λ u. u < 256) members
  pub mask_of : IfSome mask (IsMask members)

-- k is the value of the predicate at some tuple of members of the classes of these places
abbrev pub IsValueAmong : (classes : List (List ℕ)) → StructureForm → (pred : ℕ) → (tuple : List ℕ) → K3
    → Type 0
IsValueAmong classes s pred tuple k =
    (below : List ℕ) × AllZip (λ u w. Contains (class_at classes w) u) below tuple
    × (value_at s pred below ≡ k)

-- k is the join of these values
abbrev pub IsMergedValue : (classes : List (List ℕ)) → StructureForm → (pred : ℕ) → (tuple : List ℕ) → K3
    → Type 0
IsMergedValue classes s pred tuple k = IsJoin (IsValueAmong classes s pred tuple) k

-- new is old but for the values of one predicate
pub record ChangesOnly (pred : ℕ) (old new : StructureForm) : Type 0 where
  pub size : new.size ≡ old.size
  pub over : arities_of new ≡ arities_of old
  pub summaries : new.summaries ≡ old.summaries
  pub fresh : new.fresh ≡ old.fresh
  pub others : (q : ℕ) (tuple : List ℕ) → q ≢ pred → value_at new q tuple ≡ value_at old q tuple

-- the predicate is No everywhere
abbrev pub IsBlank : (pred : ℕ) → StructureForm → Type 0
IsBlank pred t = (tuple : List ℕ) → value_at t pred tuple ≡ No

-- and so are all predicates from number n on
abbrev pub IsBlankFrom : (n : ℕ) → StructureForm → Type 0
IsBlankFrom n t = (pred : ℕ) → n ≤ pred → IsBlank pred t

-- the predicate has merged values in t
abbrev pub HasMergedValues : (classes : List (List ℕ)) → (s : StructureForm) → (pred : ℕ)
    → (t : StructureForm) → Type 0
HasMergedValues classes s pred t =
    (tuple : List ℕ) → HasEntry (table_of t) pred tuple
    → IsMergedValue classes s pred tuple (value_at t pred tuple)

-- the classes are of individuals of s, and none is empty
pub record AreClasses (s : StructureForm) (classes : List (List ℕ)) : Type 0 where
  pub few : length classes ≤ 256
  pub some : All (λ members. 0 < length members) classes
  pub within : All (λ members. All (λ u. u < s.size) members) classes

-- there are individuals, and so few of them and of classes that values of each stand in one word
pub record FitWord (s : StructureForm) (classes : List (List ℕ)) : Type 0 where
  pub some : 0 < s.size
  pub few : s.size ≤ 64
  pub some_classes : 0 < length classes
  pub few_classes : length classes ≤ 64

-- an individual that is made of these is a summary: there are several, or the one is a summary
abbrev pub is_merged_summary : StructureForm → (members : List ℕ) → Bool
is_merged_summary s members = nat_lt 1 (length members) || summary_at s (slice_index members 0)

-- t has one individual for each class, a summary where it is made of several or of a summary, no mark, and
-- merged values of the first n predicates
pub record HasMerged (classes : List (List ℕ)) (s : StructureForm) (n : ℕ) (t : StructureForm) : Type 0 where
  pub size : t.size ≡ length classes
  pub over : arities_of t ≡ arities_of s
  pub fresh : t.fresh ≡ None
  pub summaries : (w : ℕ) → w < length classes → summary_at t w ≡ is_merged_summary s (class_at classes w)
  pub values : (pred : ℕ) → pred < n → HasMergedValues classes s pred t

-- the values of the first n of a family
abbrev pub IsAmongFirst : (ℕ → K3 → Type 0) → ℕ → K3 → Type 0
IsAmongFirst values n k = (i : ℕ) × (i < n) × values i k

-- the values at the members
abbrev pub IsAmongMembers : (ℕ → K3 → Type 0) → List ℕ → K3 → Type 0
IsAmongMembers values members k = (u : ℕ) × Contains members u × values u k
