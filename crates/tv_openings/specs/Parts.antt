-- In how many copies the individuals of a structure may stand, as lists.
use Rattle.std.specs.Prelude.{ℕ, ◌≡◌, ◌<◌, ◌≤◌, ◌+◌, false, List, [], ◌∷◌, sum, All, Contains}
use Rattle.tv_structure_form.specs.StructureForm.{StructureForm, summary_at}

-- numbers of copies of the individuals from u on: one or more of each, and one where it isn't a summary
abbrev pub ArePartsFrom : StructureForm → ℕ → (parts : List ℕ) → Type 0
ArePartsFrom s u [] = u ≡ s.size
ArePartsFrom s u (part ∷ parts) =
    (u < s.size) × (0 < part) × (summary_at s u ≡ false → part ≡ 1) × ArePartsFrom s (u + 1) parts

-- u is an individual of it, and there are few enough cells for a structure
abbrev pub HasPlaceFor : StructureForm → (u cells : ℕ) → Type 0
HasPlaceFor s u cells = (u < s.size) × (cells ≤ 256)

-- the same, where one copy of each individual before u has place beside these
abbrev pub HavePlace : StructureForm → (cells u : ℕ) → (parts : List ℕ) → Type 0
HavePlace s cells u parts = ArePartsFrom s u parts × (sum parts + u ≤ cells)

-- the lists are all of these
pub record AreAllParts (s : StructureForm) (cells u : ℕ) (lists : List (List ℕ)) : Type 0 where
  pub each : All (HavePlace s cells u) lists
  pub all : (parts : List ℕ) → HavePlace s cells u parts → Contains lists parts
