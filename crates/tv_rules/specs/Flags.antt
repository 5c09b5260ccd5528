-- Flags of rules, and their numbers.
use Rattle.std.specs.Prelude.{ℕ, suc, ◌≡◌, ◌==◌, ◌||◌, ◌↔◌, Bool, true, false, IsTrue, List, [], ◌∷◌, Some}
use Rattle.std.specs.Prelude.{Contains, slice_get, slice_index_or, if◌then◌else◌}
use Rattle.std.specs.List.Sorted.{IsStrictlyIncreasing}
use Rattle.tv_model.specs.Program.{HeadForm, HNever, HAtom, HSame, RuleForm}
use Rattle.tv_rules.specs.EntryForms.{EntryForm}

-- the flag says whether the rule is so
abbrev pub Flags : (RuleForm → Type 0) → RuleForm → Bool → Type 0
Flags IsSo rule flag = IsTrue flag ↔ IsSo rule

-- the flag of the rule's base rule
abbrev pub base_flag : List Bool → EntryForm → Bool
base_flag flags e = slice_index_or flags e.base false

-- the flag is that of the base rule
abbrev pub IsOfBase : List Bool → EntryForm → Bool → Type 0
IsOfBase flags e flag = flag ≡ base_flag flags e

-- whether the head has one variable twice
abbrev pub are_twice : List ℕ → Bool
are_twice [] = false
are_twice (v ∷ []) = false
are_twice (v ∷ w ∷ []) = v == w
are_twice (v ∷ w ∷ u ∷ vars) = false

abbrev pub has_twice : HeadForm → Bool
has_twice HNever = false
has_twice (HAtom flag pred vars) = are_twice vars
has_twice (HSame flag v w) = v == w

-- the flag is that of the base rule, or the head has one variable twice
abbrev pub IsOfBaseOrTwice : List Bool → EntryForm → Bool → Type 0
IsOfBaseOrTwice flags e flag = flag ≡ (base_flag flags e || has_twice e.head)

-- the places of the true flags, in order
pub record AreTrueAt (flags : List Bool) (numbers : List ℕ) : Type 0 where
  pub exact : (n : ℕ) → Contains numbers n ↔ (slice_get flags n ≡ Some true)
  pub increasing : IsStrictlyIncreasing numbers

-- the places of the true flags, numbered from n on
abbrev pub true_places : ℕ → List Bool → List ℕ
true_places n [] = []
true_places n (flag ∷ flags) = if flag then n ∷ true_places (suc n) flags else true_places (suc n) flags
