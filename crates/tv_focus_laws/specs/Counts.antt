-- How many choices an atom has, and how many individuals the largest has.
use Rattle.std.specs.Prelude.{ℕ, zero, suc, ◌≡◌, ◌≤◌, ◌<◌, ◌+◌, ◌-◌, ◌*◌, ◌^◌, min, Bool, true, false, List}
use Rattle.std.specs.Prelude.{[], ◌∷◌, length, map, sum, fold, Contains}
use Rattle.tv_kleene.specs.declared.K3.{K3}
use Rattle.tv_kleene.specs.declared.K3.TheVariants.{No, Half, Yes}
use Rattle.tv_embedding_laws.specs.LogicalStructure.{LogicalStructure}
use Rattle.tv_focus_laws.specs.Choices.{ChoiceForm, AimForm, aimed, choices, members}

-- how many of the values are Half
abbrev pub halves : List K3 → ℕ
halves [] = 0
halves (No ∷ ks) = halves ks
halves (Half ∷ ks) = suc (halves ks)
halves (Yes ∷ ks) = halves ks

-- how many tuples of the individual are Half
abbrev pub halves_at : LogicalStructure → (pred : ℕ) → AimForm → ℕ → ℕ
halves_at s pred aim u = halves (map (s.value pred) (aimed aim u))

-- the sets of vectors of an individual, where that many values are Half
abbrev pub set_count : Bool → ℕ → ℕ
set_count false half = 2 ^ half
set_count true half = 2 ^ (2 ^ half) - 1

abbrev pub multiplied : List ℕ → ℕ
multiplied [] = 1
multiplied (n ∷ ns) = n * multiplied ns

abbrev pub set_counts : LogicalStructure → (pred : ℕ) → AimForm → List ℕ
set_counts s pred aim = map (λ u. set_count (s.is_summary u) (halves_at s pred aim u)) s.individuals

abbrev pub choice_count : LogicalStructure → (pred : ℕ) → AimForm → ℕ
choice_count s pred aim = multiplied (set_counts s pred aim)

-- the most vectors that an individual may have
abbrev pub vector_count : Bool → ℕ → ℕ
vector_count false half = 1
vector_count true half = 2 ^ half

-- the individuals of the largest choice
abbrev pub largest_size : LogicalStructure → (pred : ℕ) → AimForm → ℕ
largest_size s pred aim =
    sum (map (λ u. vector_count (s.is_summary u) (halves_at s pred aim u)) s.individuals)

-- a product as far as a limit
abbrev pub limited_product : (limit : ℕ) → List ℕ → ℕ
limited_product limit ns = fold (λ total n. min (total * min n limit) limit) 1 ns

-- a number of sets as far as 4097, where the number of choices is too large
abbrev pub few_sets : Bool → ℕ → ℕ
few_sets false half = min (2 ^ half) 4097
few_sets true zero = 1
few_sets true (suc zero) = 3
few_sets true (suc (suc zero)) = 15
few_sets true (suc (suc (suc zero))) = 255
few_sets true (suc (suc (suc (suc half)))) = 4097

abbrev pub few_choices : LogicalStructure → (pred : ℕ) → AimForm → ℕ
few_choices s pred aim =
    fold (λ total u. min (total * few_sets (s.is_summary u) (halves_at s pred aim u)) 4097) 1 s.individuals

-- a choice of that many individuals
abbrev pub HasChoiceOf : LogicalStructure → (pred : ℕ) → AimForm → ℕ → Type 0
HasChoiceOf s pred aim n =
    (choice : ChoiceForm) × Contains (choices s pred aim) choice × (length (members s.individuals choice) ≡ n)

-- the numbers, without the choices
pub record AreCounted (s : LogicalStructure) (pred : ℕ) (aim : AimForm) : Type 0 where
  pub number : length (choices s pred aim) ≡ choice_count s pred aim
  pub limited : few_choices s pred aim ≡ min (choice_count s pred aim) 4097
  pub most : (choice : ChoiceForm) → Contains (choices s pred aim) choice
      → length (members s.individuals choice) ≤ largest_size s pred aim
  pub reached : HasChoiceOf s pred aim (largest_size s pred aim)

-- where there aren't too many choices, no summary has more than 3 Half values, and no other individual more
-- than 12
pub record HasFewHalves (s : LogicalStructure) (pred : ℕ) (aim : AimForm) (u : ℕ) : Type 0 where
  pub summary : s.is_summary u ≡ true → halves_at s pred aim u ≤ 3
  pub ordinary : s.is_summary u ≡ false → halves_at s pred aim u ≤ 12

abbrev pub FewChoicesHaveFewHalves : Type 0
FewChoicesHaveFewHalves =
    (s : LogicalStructure) (pred : ℕ) (aim : AimForm) → choice_count s pred aim ≤ 4096 → (u : ℕ)
    → Contains s.individuals u
    → HasFewHalves s pred aim u

abbrev pub ChoicesAreCounted : Type 0
ChoicesAreCounted = (s : LogicalStructure) (pred : ℕ) (aim : AimForm) → AreCounted s pred aim
