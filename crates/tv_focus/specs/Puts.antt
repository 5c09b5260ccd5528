-- Vectors by their first value, and what is put into a split structure, copy by copy.
use Rattle.std.specs.Prelude.{ℕ, ◌+◌, ◌<◌, ◌≤◌, List, [], ◌∷◌, ◌++◌, length, map, take, sum, All, Contains}
use Rattle.tv_kleene.specs.declared.K3.{K3}
use Rattle.std.specs.List.{flat_map, AllByRecursion}
use Rattle.tv_structure_form.specs.StructureForm.{StructureForm, structure_of}
use Rattle.tv_focus_laws.specs.Choices.{AimForm, Alone, Before, Behind, ChoiceForm, VectorSet, choices}
use Rattle.tv_focus_laws.specs.Choices.{definite}
use Rattle.tv_focus_laws.specs.Tables.{parts_of}
use Rattle.tv_focus_laws.specs.Written.{WriteForm}
use Rattle.tv_focus_step_laws.specs.Above.{writes_at}

-- for the copies of one individual, from a number on
abbrev pub set_writes : AimForm → (at : ℕ) → VectorSet → List WriteForm
set_writes aim at [] = []
set_writes aim at (vector ∷ set) = writes_at aim at vector ++ set_writes aim (at + 1) set

-- for the copies of all individuals
abbrev pub choice_writes : AimForm → (at : ℕ) → ChoiceForm → List WriteForm
choice_writes aim at [] = []
choice_writes aim at (set ∷ choice) = set_writes aim at set ++ choice_writes aim (at + length set) choice

-- how many copies a choice has
abbrev pub copies_in : ChoiceForm → ℕ
copies_in choice = sum (map length choice)

-- the number of an individual's first copy
abbrev pub copy_number : ChoiceForm → ℕ → ℕ
copy_number choice a = sum (take a (parts_of choice))

-- the aim among the copies
abbrev pub aim_in : ChoiceForm → AimForm → AimForm
aim_in choice Alone = Alone
aim_in choice (Before anchors) = Before (map (copy_number choice) anchors)
aim_in choice (Behind anchors) = Behind (map (copy_number choice) anchors)

-- the anchors are individuals
abbrev pub AreAimsWithin : (size : ℕ) → AimForm → Type 0
AreAimsWithin size Alone = Unit {0}
AreAimsWithin size (Before anchors) = All (λ a. a < size) anchors
AreAimsWithin size (Behind anchors) = All (λ a. a < size) anchors

-- one of the choices, and not too large
pub record IsChoiceOf (s : StructureForm) (pred : ℕ) (aim : AimForm) (choice : ChoiceForm) : Type 0 where
  pub listed : Contains (choices (structure_of s) pred aim) choice
  pub few : copies_in choice ≤ 256

-- each choice that begins so, and goes on with one of each of the sets, is such a one
abbrev pub AreChosen : (ChoiceForm → Type 0) → (begun : ChoiceForm) → List (List VectorSet) → Type 0
AreChosen P begun [] = P begun
AreChosen P begun (first ∷ rest) = AllByRecursion (λ set. AreChosen P (begun ++ set ∷ []) rest) first

-- what is made of each of these choices, in order
abbrev pub chosen_tables : (ChoiceForm → StructureForm) → (begun : ChoiceForm) → List (List VectorSet)
    → List StructureForm
chosen_tables table begun [] = table begun ∷ []
chosen_tables table begun (first ∷ rest) =
    flat_map (λ set. chosen_tables table (begun ++ set ∷ []) rest) first

-- the vectors that begin with a definite value for which k stands, and go on with one of these
abbrev pub begun_with : K3 → VectorSet → VectorSet
begun_with k later = flat_map (λ x. map (λ v. x ∷ v) later) (definite k)
