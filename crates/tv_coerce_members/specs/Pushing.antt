-- How the steps of a level are gathered: those of literals, then the others.
use Rattle.std.specs.Prelude.{ℕ, ◌≡◌, ◌≤◌, ◌<◌, ◌⊎◌, Bool, true, false, List, Some, All, Any, slice_get}
use Rattle.tv_coerce_members.specs.Members.{AreApart, IsStepOf, MemberForm}
use Rattle.tv_coerce_members.specs.declared.levels.Step.{Step}
use Rattle.tv_coerce_members.specs.declared.readings.Reading.{Reading}
use Rattle.tv_coerce_members.specs.declared.readings.Reading.TheVariants.{Alone, Second, First, Same, Other}

-- whether nothing is known but the formula
abbrev pub is_other : Reading → Bool
is_other (Alone flag p) = false
is_other (Second flag p x) = false
is_other (First flag p x) = false
is_other (Same flag x) = false
is_other Other = true

-- the member is tested at the level, and no literal where the flag is true, else one
abbrev pub IsTestedAt : (left : ℕ) → (last other : Bool) → MemberForm → Type 0
IsTestedAt left last other m = (m.left ≡ left) × (m.last ≡ last) × (is_other m.reading ≡ other)

-- the step is of one of the members with these numbers, and of no literal where the flag is true
abbrev pub IsStepAmong : (other : Bool) → (from to : ℕ) → Step → Type 0
IsStepAmong other from to st = (from ≤ st.member) × (st.member < to) × (is_other st.reading ≡ other)

-- of the members with these numbers, each that is so has its step in the new list, which has what the old one
-- has
pub record ArePushed (ms : List MemberForm) (left : ℕ) (last other : Bool) (from to : ℕ) (old new : List Step)
    : Type 0 where
  pub each : All (IsStepOf ms left last) old → All (IsStepOf ms left last) new
  pub kept : (k : ℕ) → Any (λ st. st.member ≡ k) old → Any (λ st. st.member ≡ k) new
  pub all : (k : ℕ) (m : MemberForm) → from ≤ k → k < to → slice_get ms k ≡ Some m
      → IsTestedAt left last other m → Any (λ st. st.member ≡ k) new
  pub those : (j : ℕ) (st : Step) → slice_get new j ≡ Some st
      → (slice_get old j ≡ Some st) ⊎ IsStepAmong other from to st
  pub apart : All (IsStepOf ms left last) old → AreApart old
      → ((j : ℕ) (st : Step) → slice_get old j ≡ Some st → ¬ IsStepAmong other from to st) → AreApart new
