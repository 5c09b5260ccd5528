-- Sets of numbers of rules.
use Rattle.std.specs.Prelude.{ℕ, ◌≡◌, ◌≢◌, ◌<◌, ◌≤◌, ◌⊎◌, ◌↔◌, Bool, true, false, List, length, Some}
use Rattle.std.specs.Prelude.{slice_get, Contains, Option}
use Rattle.std.specs.Prelude.{slice_index_or}
use Rattle.std.specs.List.{sum_by}
use Rattle.tv_model.specs.Program.{RuleForm}
use Rattle.tv_stable_laws.specs.Stable.{IsStableUnder}
use Rattle.tv_structure_form.specs.StructureForm.{StructureForm, structure_of}
use Rattle.tv_rules.specs.Seen.{Sees}
use Rattle.tv_coerce.specs.declared.noted.Ask.{Ask}

-- the number is in the set; a set has a flag for each number
abbrev pub IsIn : List Bool → ℕ → Type 0
IsIn set n = slice_index_or set n false ≡ true

-- no number below n is in the set
abbrev pub BeginsAt : ℕ → List Bool → Type 0
BeginsAt n set = (m : ℕ) → m < n → ¬ IsIn set m

-- how many numbers are in the set
abbrev pub flag_count : Bool → ℕ
flag_count false = 0
flag_count true = 1

abbrev pub member_count : List Bool → ℕ
member_count set = sum_by flag_count set

-- the new set has the numbers of the old one and those of which P holds
pub record HasMore (P : ℕ → Type 0) (old new : List Bool) : Type 0 where
  pub exact : (n : ℕ) → IsIn new n ↔ (IsIn old n ⊎ P n)
  pub count : length new ≡ length old

-- the new set has the numbers of the old one and those of which P holds, and maybe others
pub record HasAtLeast (P : ℕ → Type 0) (old new : List Bool) : Type 0 where
  pub kept : (n : ℕ) → IsIn old n → IsIn new n
  pub those : (n : ℕ) → P n → IsIn new n
  pub count : length new ≡ length old

-- the number is one of those, and is so
abbrev pub AreOf : (IsOne IsSo : ℕ → Type 0) → ℕ → Type 0
AreOf IsOne IsSo n = IsOne n × IsSo n

-- the new set has the numbers of the old one but for n, which the old one has
pub record HasLost (n : ℕ) (old new : List Bool) : Type 0 where
  pub there : IsIn old n
  pub gone : ¬ IsIn new n
  pub others : (m : ℕ) → m ≢ n → IsIn new m ↔ IsIn old m
  pub count : length new ≡ length old
  pub fewer : member_count new < member_count old

-- the new set has the numbers of the old one, but maybe some of which P holds
pub record HasFewer (P : ℕ → Type 0) (old new : List Bool) : Type 0 where
  pub kept : (n : ℕ) → IsIn new n → IsIn old n
  pub lost : (n : ℕ) → IsIn old n → ¬ IsIn new n → P n
  pub count : length new ≡ length old
  pub fewer : member_count new ≤ member_count old

-- the rule of that number is so
abbrev pub IsRuleThat : (IsSo : RuleForm → Type 0) → List RuleForm → ℕ → Type 0
IsRuleThat IsSo rules n = (rule : RuleForm) × (slice_get rules n ≡ Some rule) × IsSo rule

-- the structure is stable under each rule whose number isn't in the set
abbrev pub IsStableBut : List RuleForm → List Bool → StructureForm → Type 0
IsStableBut rules set s =
    (n : ℕ) (rule : RuleForm) → slice_get rules n ≡ Some rule → ¬ IsIn set n
    → IsStableUnder (structure_of s) rule

-- the rule sees what the rule of that number may change
abbrev pub SeesRule : List RuleForm → ℕ → RuleForm → Type 0
SeesRule rules n other = (rule : RuleForm) × (slice_get rules n ≡ Some rule) × Sees rule.head other

-- those that see what the rule of the number may change, if one is told, are in the set
abbrev pub IsSeenTo : List RuleForm → Option ℕ → List Bool → Type 0
IsSeenTo rules last set =
    (n m : ℕ) → last ≡ Some n → IsRuleThat (SeesRule rules n) rules m → IsIn set m

-- it sees what one of those may change that ask for something
abbrev pub SeesSome : List RuleForm → List Ask → RuleForm → Type 0
SeesSome rules asks other = (ask : Ask) × Contains asks ask × SeesRule rules ask.number other
