-- The table of a choice, as it is written: a split table, in which the vectors' values are put one after
-- the other.
use Rattle.std.specs.Prelude.{ℕ, ◌≡◌, ◌≢◌, ◌≤◌, List, [], ◌∷◌, length, map, fold, Some, AllPairs, Contains}
use Rattle.std.specs.Prelude.{slice_get, slice_index_or}
use Rattle.std.specs.List.{flat_map, range_with_len}
use Rattle.tv_kleene.specs.declared.K3.{K3}
use Rattle.tv_kleene.specs.declared.K3.TheVariants.{No}
use Rattle.tv_structure_form.specs.StructureForm.{StructureForm, IsStructure, split, with_value, value_at}
use Rattle.tv_structure_form.specs.StructureForm.{structure_of, arities_of}
use Rattle.tv_model.specs.Form.{Form}
use Rattle.tv_focus_laws.specs.Stages.{atom_at, split_at}
use Rattle.tv_focus_laws.specs.Counts.{largest_size}
use Rattle.tv_focus_laws.specs.Choices.{ChoiceForm, AimForm, Alone, Before, Behind, SplitForm, Nothing, Whole}
use Rattle.tv_focus_laws.specs.Choices.{Each, definite, MemberForm, members, member_at, copy_of, choices}
use Rattle.tv_focus_laws.specs.Choices.{chosen}
use Rattle.tv_focus_laws.specs.Tables.{ShowsOver, AreStage, parts_of}
use Rattle.tv_focus_laws.specs.Laws.{AreAnchors}

-- a value that is put at a tuple
pub record WriteForm : Type 0 where
  pub tuple : List ℕ
  pub value : K3

-- the vector's values, each at the tuple of its anchor
abbrev pub vector_writes : (tuple : ℕ → List ℕ) → (anchors : List ℕ) → List K3 → List WriteForm
vector_writes tuple [] vector = []
vector_writes tuple (a ∷ anchors) [] = []
vector_writes tuple (a ∷ anchors) (x ∷ vector) =
    record { tuple = tuple a; value = x } ∷ vector_writes tuple anchors vector

-- what is put for the i-th copy
abbrev pub copy_writes : AimForm → List MemberForm → ℕ → List WriteForm
copy_writes Alone ms i = record { tuple = i ∷ []; value = slice_index_or (member_at ms i).vector 0 No } ∷ []
copy_writes (Before anchors) ms i = vector_writes (λ a. i ∷ copy_of ms a ∷ []) anchors (member_at ms i).vector
copy_writes (Behind anchors) ms i = vector_writes (λ a. copy_of ms a ∷ i ∷ []) anchors (member_at ms i).vector

abbrev pub all_writes : AimForm → List MemberForm → List WriteForm
all_writes aim ms = flat_map (copy_writes aim ms) (range_with_len 0 (length ms))

abbrev pub written : StructureForm → (pred : ℕ) → List WriteForm → StructureForm
written t pred writes = fold (λ u w. with_value u pred w.tuple w.value) t writes

-- the table of a choice
abbrev pub chosen_table : StructureForm → (pred : ℕ) → AimForm → ChoiceForm → StructureForm
chosen_table s pred aim choice =
    written (split s (parts_of choice)) pred (all_writes aim (members (structure_of s).individuals choice))

-- how many places the atom has
abbrev pub places_of : AimForm → ℕ
places_of Alone = 1
places_of (Before anchors) = 2
places_of (Behind anchors) = 2

-- no anchor stands twice
abbrev pub AreApart : AimForm → Type 0
AreApart Alone = Unit {0}
AreApart (Before anchors) = AllPairs ◌≢◌ anchors
AreApart (Behind anchors) = AllPairs ◌≢◌ anchors

-- the table of a choice shows its structure, where it isn't too large
abbrev pub ChosenTablesShow : Type 0
ChosenTablesShow =
    (s : StructureForm) (pred : ℕ) (aim : AimForm) (choice : ChoiceForm) → IsStructure s
    → slice_get (arities_of s) pred ≡ Some (places_of aim) → AreAnchors (structure_of s) aim → AreApart aim
    → Contains (choices (structure_of s) pred aim) choice
    → length (members (structure_of s).individuals choice) ≤ 256
    → ShowsOver s (chosen_table s pred aim choice) (chosen (structure_of s) pred aim choice)

-- the tables that focus makes of one, in order
abbrev pub split_tables : StructureForm → (pred : ℕ) → SplitForm → List StructureForm
split_tables s pred Nothing = s ∷ []
split_tables s pred Whole = map (with_value s pred []) (definite (value_at s pred []))
split_tables s pred (Each aim) = map (chosen_table s pred aim) (choices (structure_of s) pred aim)

-- no choice has over 256 individuals
abbrev pub AreSmall : StructureForm → (pred : ℕ) → SplitForm → Type 0
AreSmall s pred Nothing = Unit {0}
AreSmall s pred Whole = Unit {0}
AreSmall s pred (Each aim) = largest_size (structure_of s) pred aim ≤ 256

-- the tables of the k-th atom of the formula
abbrev pub stage_tables : StructureForm → Form → ℕ → List StructureForm
stage_tables s f k = split_tables s (atom_at f k).pred (split_at (structure_of s) f k)

abbrev pub StageTablesAreStage : Type 0
StageTablesAreStage =
    (s : StructureForm) (f : Form) (k : ℕ) → IsStructure s
    → slice_get (arities_of s) (atom_at f k).pred ≡ Some (length (atom_at f k).vars)
    → AreSmall s (atom_at f k).pred (split_at (structure_of s) f k) → AreStage s f k (stage_tables s f k)
