-- The members of a base rule, how each is read, and when it is tested in a walk over the rule's variables.
use Rattle.std.specs.Prelude.{ℕ, ◌≡◌, ◌≢◌, ◌≤◌, ◌+◌, ◌⊎◌, Bool, true, false, List, [], ◌∷◌, ◌++◌}
use Rattle.std.specs.Prelude.{length, map, Some, All, Any, IsSomeAnd, slice_get}
use Rattle.std.specs.Borrow.{Bor}
use Rattle.tv_model.specs.Form.{Form, FAtom, FNot, FSame, form_of, IsFree}
use Rattle.tv_model.specs.declared.formula.Formula.{Formula}
use Rattle.tv_model.specs.declared.formula.Var.{Var}
use Rattle.tv_coerce_members.specs.declared.levels.Level.{Level}
use Rattle.tv_coerce_members.specs.declared.levels.Step.{Step}
use Rattle.tv_coerce_members.specs.declared.members.Member.{Member}
use Rattle.tv_coerce_members.specs.declared.members.Wait.{Wait}
use Rattle.tv_coerce_members.specs.declared.readings.Reading.{Reading}
use Rattle.tv_coerce_members.specs.declared.readings.Reading.TheVariants.{Alone, Second, First, Same, Other}
use Rattle.tv_coerce_members.specs.declared.shapes.Shape.{Shape}

-- what formulas behind references say
abbrev pub forms_of : List (Bor Formula) → List Form
forms_of fs = map (λ f. form_of f.now) fs

-- the numbers of variables
abbrev pub numbers_of : List Var → List ℕ
numbers_of vars = map (λ v. v.0) vars

-- an atom or an equality
abbrev pub is_positive : Form → Bool
is_positive (FAtom p vars) = true
is_positive (FSame v w) = true
is_positive f = false

-- one of these, or the negation of one
abbrev pub is_literal : Form → Bool
is_literal (FNot f) = is_positive f
is_literal f = is_positive f

-- a formula, negated where the flag is false
abbrev pub signed : Bool → Form → Form
signed true f = f
signed false f = FNot f

-- the formula's values for the individuals that v may stand for are read so
abbrev pub IsReadAs : (v : ℕ) → Reading → Form → Type 0
IsReadAs v (Alone flag p) f = f ≡ signed flag (FAtom p.0 (v ∷ []))
IsReadAs v (Second flag p x) f = (f ≡ signed flag (FAtom p.0 (x.0 ∷ v ∷ []))) × (x.0 ≢ v)
IsReadAs v (First flag p x) f = (f ≡ signed flag (FAtom p.0 (v ∷ x.0 ∷ []))) × (x.0 ≢ v)
IsReadAs v (Same flag x) f = ((f ≡ signed flag (FSame v x.0)) ⊎ (f ≡ signed flag (FSame x.0 v))) × (x.0 ≢ v)
IsReadAs v Other f = Unit {0}

-- a member: how many variables at the end of those before the last it surely doesn't wait for, whether the
-- last one may stand in it, and how it is read
pub record MemberForm : Type 0 where
  pub form : Form
  pub left : ℕ
  pub last : Bool
  pub reading : Reading

abbrev pub member_of : Member → MemberForm
member_of m = record { form = form_of m.formula; left = m.left; last = m.last; reading = m.reading }

abbrev pub members_of : List Member → List MemberForm
members_of ms = map member_of ms

-- the formula as a member with this wait, in which the last variable doesn't stand
abbrev pub waiting : Form → Wait → MemberForm
waiting f w = record { form = f; left = w.left; last = false; reading = w.reading }

-- of the variables before the last, so many are surely not free in the member; along the one before these it
-- is read so, unless it is read along the last
abbrev pub WaitsFor : List ℕ → MemberForm → Type 0
WaitsFor [] m = Unit {0}
WaitsFor (v ∷ rest) m =
    (1 + length rest ≤ m.left → ¬ IsFree v m.form)
    × (m.last ≡ false → m.left ≡ length rest → IsReadAs v m.reading m.form)
    × WaitsFor rest m

-- a member of a rule whose variables are those before and w
pub record IsPlaced (before : List ℕ) (w : ℕ) (m : MemberForm) : Type 0 where
  pub waits : WaitsFor before m
  pub most : m.left ≤ length before
  pub apart : m.last ≡ false → ¬ IsFree w m.form
  pub along : m.last ≡ true → IsReadAs w m.reading m.form

-- the same for all the variables, of which there may be none
pub record IsPlacedIn (vars : List ℕ) (m : MemberForm) : Type 0 where
  pub placed : (before : List ℕ) (w : ℕ) → vars ≡ before ++ w ∷ [] → IsPlaced before w m
  pub alone : vars ≡ [] → (m.left ≡ 0) × (m.last ≡ false)

-- the member is tested once all but so many of the variables before the last have individuals, along the last
-- where the flag is true; the step has its reading, and whether it is a literal
abbrev pub IsSteppedBy : (left : ℕ) → (last : Bool) → Step → MemberForm → Type 0
IsSteppedBy left last st m =
    (m.left ≡ left) × (m.last ≡ last) × (m.reading ≡ st.reading) × (is_literal m.form ≡ st.literal)

abbrev pub IsStepOf : List MemberForm → (left : ℕ) → (last : Bool) → Step → Type 0
IsStepOf ms left last st = IsSomeAnd (slice_get ms st.member) (IsSteppedBy left last st)

-- no two of the steps are of one member
abbrev pub AreApart : List Step → Type 0
AreApart steps =
    (i j : ℕ) (st other : Step) → slice_get steps i ≡ Some st → slice_get steps j ≡ Some other
    → st.member ≡ other.member → i ≡ j

-- the steps are those of the members that are tested then, of all of them, each once
pub record AreSteps (ms : List MemberForm) (left : ℕ) (last : Bool) (steps : List Step) : Type 0 where
  pub each : All (IsStepOf ms left last) steps
  pub all : (k : ℕ) (m : MemberForm) → slice_get ms k ≡ Some m → m.left ≡ left → m.last ≡ last
      → Any (λ st. st.member ≡ k) steps
  pub apart : AreApart steps

-- the level for each number of variables before the last that are left, below a count
pub record AreLevels (ms : List MemberForm) (count : ℕ) (levels : List Level) : Type 0 where
  pub long : length levels ≡ count
  pub each : (left : ℕ) (l : Level) → slice_get levels left ≡ Some l
      → AreSteps ms left false l.own × AreSteps ms left true l.last

-- the members are placed among the shape's variables, and its levels are theirs
pub record IsLaidOut (shape : Shape) : Type 0 where
  pub placed : All (IsPlacedIn (numbers_of shape.variables)) (members_of shape.members)
  pub levels : (before : List ℕ) (w : ℕ) → numbers_of shape.variables ≡ before ++ w ∷ []
      → AreLevels (members_of shape.members) (1 + length before) shape.levels
  pub level : numbers_of shape.variables ≡ [] → AreLevels (members_of shape.members) 1 shape.levels

-- a shape with these variables and formulas
pub record IsShapeOf (vars : List ℕ) (fs : List Form) (shape : Shape) : Type 0 where
  pub variables : numbers_of shape.variables ≡ vars
  pub forms : map (λ m. m.form) (members_of shape.members) ≡ fs
  pub laid : IsLaidOut shape
