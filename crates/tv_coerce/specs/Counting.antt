-- How the members of a base rule are counted while its variables get individuals. No assignment may make all
-- of them Yes, and where all but one are, that one has to be No: so what matters are assignments under which
-- at most one isn't Yes, which is unknown. What is counted of the last variable is a word of individuals,
-- counted on as soon as another variable has its individual.
use Rattle.std.specs.Prelude.{ℕ, ◌≡◌, ◌≢◌, ◌<◌, ◌≤◌, ◌+◌, ◌*◌, ◌⊎◌, Bool, true, false, List, [], ◌∷◌, ◌++◌}
use Rattle.std.specs.Prelude.{◌-◌, Contains, length, Option, Some, slice_get, slice_index_or}
use Rattle.tv_kleene.specs.declared.K3.{K3}
use Rattle.tv_kleene.specs.declared.K3.TheVariants.{No, Half, Yes}
use Rattle.tv_kleene.specs.Kleene.{IsAtMost, negation_of}
use Rattle.tv_model.specs.Form.{Form, FExists}
use Rattle.tv_model.specs.Truth.{Assignment, put}
use Rattle.tv_model.specs.Valid.{IsFormulaOver}
use Rattle.tv_coerce_members.specs.Members.{MemberForm, IsReadAs, is_literal, members_of, numbers_of}
use Rattle.tv_coerce_members.specs.declared.levels.Step.{Step}
use Rattle.tv_coerce_members.specs.declared.readings.Reading.{Reading}
use Rattle.tv_coerce_members.specs.declared.readings.Reading.TheVariants.{Alone, Second, First, Same, Other}
use Rattle.tv_eval_laws.specs.Value.{value}
use Rattle.tv_eval.specs.AssignmentForm.{assignment_of}
use Rattle.tv_eval.specs.Formulas.{AreAssigned}
use Rattle.tv_eval.specs.ScratchForm.{ScratchForm, HasScratchFor}
use Rattle.tv_structure_form.specs.StructureForm.{StructureForm, arities_of, structure_of}
use Rattle.tv_coerce.specs.Trying.{ArePlaced, trial_rule}
use Rattle.tv_coerce.specs.declared.trial.Trial.{Trial}

-- the members of the trial's base rule, and its variables
abbrev pub members_in : Trial → List MemberForm
members_in trial = members_of trial.shape.now.members

abbrev pub variables_in : Trial → List ℕ
variables_in trial = numbers_of trial.shape.now.variables

-- ---- values counted together

-- Yes where both are, Half where one is Yes and the other unknown, and else No
abbrev pub counted : K3 → K3 → K3
counted No k = No
counted Half No = No
counted Half Half = No
counted Half Yes = Half
counted Yes k = k

-- how the value of a member counts, of which it is said whether it is a literal: what isn't has to be Yes
abbrev pub count_of : (literal : Bool) → K3 → K3
count_of true k = k
count_of false No = No
count_of false Half = No
count_of false Yes = Yes

-- ---- members that aren't Yes

-- a member, one of those, isn't Yes under the assignment
pub record Lacks (Those : MemberForm → Type 0) (s : StructureForm) (a : Assignment) (ms : List MemberForm)
    : Type 0 where
  pub number : ℕ
  pub member : MemberForm
  pub there : slice_get ms number ≡ Some member
  pub those : Those member
  pub lacks : value (structure_of s) a member.form ≢ Yes

-- the member alone sees to it that no rule of its base rule asks for anything: it is No, or isn't Yes though
-- it is no literal, so that no rule denies it
abbrev pub IsBarring : StructureForm → Assignment → MemberForm → Type 0
IsBarring s a m =
    (value (structure_of s) a m.form ≡ No)
    ⊎ ((is_literal m.form ≡ false) × (value (structure_of s) a m.form ≢ Yes))

-- one of those members does
pub record Bars (Those : MemberForm → Type 0) (s : StructureForm) (a : Assignment) (ms : List MemberForm)
    : Type 0 where
  pub number : ℕ
  pub member : MemberForm
  pub there : slice_get ms number ≡ Some member
  pub those : Those member
  pub bars : IsBarring s a member

-- or two of them aren't Yes
pub record LacksTwo (Those : MemberForm → Type 0) (s : StructureForm) (a : Assignment) (ms : List MemberForm)
    : Type 0 where
  pub one : Lacks Those s a ms
  pub other : Lacks Those s a ms
  pub apart : one.number ≢ other.number

-- so no rule asks for anything under the assignment
abbrev pub IsIdle : (Those : MemberForm → Type 0) → StructureForm → Assignment → List MemberForm → Type 0
IsIdle Those s a ms = Bars Those s a ms ⊎ LacksTwo Those s a ms

-- a member that is tested once all but so many variables before the last have individuals, of the last
-- variable or of the others alone
abbrev pub IsAt : (left : ℕ) → (last : Bool) → MemberForm → Type 0
IsAt left last m = (m.left ≡ left) × (m.last ≡ last)

-- one that is tested by then
abbrev pub IsFrom : (left : ℕ) → MemberForm → Type 0
IsFrom left m = left ≤ m.left

-- any member
abbrev pub IsSome : MemberForm → Type 0
IsSome m = Unit {0}

-- all members are Yes but maybe the one of that number
abbrev pub AreOthersYes : StructureForm → Assignment → ℕ → List MemberForm → Type 0
AreOthersYes s a k ms =
    (j : ℕ) (m : MemberForm) → slice_get ms j ≡ Some m → j ≢ k → value (structure_of s) a m.form ≡ Yes

-- what a count of some members tells: with No no rule asks for anything, with Half one isn't Yes
abbrev pub CountTells : (Lacking Idle : Type 0) → K3 → Type 0
CountTells Lacking Idle No = Idle
CountTells Lacking Idle Half = Lacking
CountTells Lacking Idle Yes = Unit {0}

-- ---- words of individuals

-- a value, negated where the flag is false
abbrev pub signed_value : Bool → K3 → K3
signed_value true k = k
signed_value false k = negation_of k

-- of the individuals from 64 * chunk on, put for v, the new word counts on the old one: what is No there
-- tells that nothing is asked for, or that a further member isn't Yes, and what is Half, that one isn't
pub record IsCounted (size : ℕ) (a : Assignment) (v chunk : ℕ) (Lacking Idle : Assignment → Type 0)
    (old new : List K3)
    : Type 0 where
  pub long : length new ≡ 64
  pub some : (i : ℕ) → i < 64 → slice_index_or new i No ≢ No → slice_index_or old i No ≢ No
  pub no : (i : ℕ) → i < 64 → 64 * chunk + i < size → slice_index_or old i No ≢ No
      → slice_index_or new i No ≡ No → Idle (put a v (64 * chunk + i))
      ⊎ ((slice_index_or old i No ≡ Half) × Lacking (put a v (64 * chunk + i)))
  pub half : (i : ℕ) → i < 64 → 64 * chunk + i < size → slice_index_or new i No ≡ Half
      → (slice_index_or old i No ≡ Half) ⊎ Lacking (put a v (64 * chunk + i))

-- the step's member can be valued
pub record CanTest (trial : Trial) (room : ScratchForm) (places : List (Option ℕ))
    (step : Step) : Type 0 where
  pub member : MemberForm
  pub there : slice_get (members_in trial) step.member ≡ Some member
  pub literal : is_literal member.form ≡ step.literal
  pub formula : IsFormulaOver (arities_of trial.structure.now) member.form
  pub assigned : AreAssigned trial.structure.now.size places member.form
  pub fits : HasScratchFor room member.form trial.structure.now.size

-- of the individuals from 64 * chunk on, put for v, those that the word doesn't rule out have the formula's
-- values
pub record IsReadOf (s : StructureForm) (a : Assignment) (v chunk : ℕ) (f : Form) (word values : List K3)
    : Type 0 where
  pub long : length values ≡ 64
  pub each : (i : ℕ) → i < 64 → 64 * chunk + i < s.size → slice_index_or word i No ≢ No
      → slice_index_or values i No ≡ value (structure_of s) (put a v (64 * chunk + i)) f

-- it can be valued for all individuals, put for v, and is read so
pub record CanRead (trial : Trial) (room : ScratchForm) (v : ℕ) (places : List (Option ℕ)) (step : Step)
    : Type 0 where
  pub member : MemberForm
  pub there : slice_get (members_in trial) step.member ≡ Some member
  pub literal : is_literal member.form ≡ step.literal
  pub formula : IsFormulaOver (arities_of trial.structure.now) (FExists v member.form)
  pub assigned : AreAssigned trial.structure.now.size places (FExists v member.form)
  pub fits : HasScratchFor room member.form trial.structure.now.size
  pub read : IsReadAs v step.reading member.form

-- ---- what was narrowed before the walk

-- a member that waits for the variables that are left, or that is tested of the last variable as soon as the
-- one before those has its individual
abbrev pub IsLater : (left : ℕ) → MemberForm → Type 0
IsLater left m = (m.left < left) ⊎ ((m.left ≡ left) × (m.last ≡ true))

-- what the value tells of how those members count
abbrev pub Tells : (Those : MemberForm → Type 0) → StructureForm → Assignment → List MemberForm → K3 → Type 0
Tells Those s b ms k = CountTells (Lacks Those s b ms) (IsIdle Those s b ms) k

-- the assignment gives individuals to these variables
abbrev pub AreOf : (size : ℕ) → (vars : List ℕ) → Assignment → Type 0
AreOf size vars b = (x : ℕ) → Contains vars x → b x < size

-- the variable before the last that has so many between itself and the last
abbrev pub variable_at : (vars : List ℕ) → (left : ℕ) → ℕ
variable_at vars left = slice_index_or vars (length vars - (left + 2)) 0

-- by the individual of that variable, the word tells of the later members whatever the other variables stand
-- for
abbrev pub IsNarrowed : StructureForm → (vars : List ℕ) → List MemberForm → (left : ℕ) → List K3 → Type 0
IsNarrowed s vars ms left word =
    (b : Assignment) → AreOf s.size vars b
    → Tells (IsLater left) s b ms (slice_index_or word (b (variable_at vars left)) No)

-- each of the words does
abbrev pub AreNarrowed : Trial → List (List K3) → Type 0
AreNarrowed trial later =
    (left : ℕ) (word : List K3) → slice_get later left ≡ Some word
    → (trial.structure.now.size ≤ 64) × (length word ≡ 64)
    × IsNarrowed trial.structure.now (variables_in trial) (members_in trial) left word

-- the step's member is over the structure's predicates, and is read so along w
pub record IsSeen (trial : Trial) (w : ℕ) (step : Step) : Type 0 where
  pub member : MemberForm
  pub there : slice_get (members_in trial) step.member ≡ Some member
  pub formula : IsFormulaOver (arities_of trial.structure.now) member.form
  pub read : IsReadAs w step.reading member.form

-- no other variable is read, beside the one along which the values stand
abbrev pub RestsOn : (v : ℕ) → Reading → Type 0
RestsOn v (Alone flag p) = Unit {0}
RestsOn v (Second flag p x) = x.0 ≡ v
RestsOn v (First flag p x) = x.0 ≡ v
RestsOn v (Same flag x) = x.0 ≡ v
RestsOn v Other = ⊥

-- how the members of a level count under the assignment, which with the first value is at most the second
pub record IsBest (trial : Trial) (left : ℕ) (last : Bool) (b : Assignment) (begun best : K3) : Type 0 where
  pub own : K3
  pub tells : Tells (IsAt left last) trial.structure.now b (members_in trial) own
  pub most : IsAtMost (counted begun own) best

-- ---- the walk

-- the trial's variables are some, then those that are left before the last, then the last
abbrev pub AreLeft : Trial → (rest : List ℕ) → Type 0
AreLeft trial rest = (done : List ℕ) × (variables_in trial ≡ done ++ (rest ++ trial.last.0 ∷ []))

-- the trial's variables are those before and the last, and the members without variables count so, which
-- doesn't rule the rules out
pub record IsBegun (trial : Trial) (before : List ℕ) (places : List (Option ℕ)) (k : K3) : Type 0 where
  pub variables : variables_in trial ≡ before ++ trial.last.0 ∷ []
  pub own : Tells (IsAt (length before) false) trial.structure.now (assignment_of places) (members_in trial) k
  pub some : k ≢ No

-- where a walk over the variables before the last that are left may begin: what can be tested was, and the
-- word has how that counts for each individual of the last variable
pub record IsWalkStart (trial : Trial) (rest : List ℕ) (places : List (Option ℕ)) (tail : List K3)
    : Type 0 where
  pub left : AreLeft trial rest
  pub chunk : 64 * trial.chunk < trial.structure.now.size
  pub placed : ArePlaced trial.structure.now.size (trial_rule trial) (rest ++ trial.last.0 ∷ []) places
  pub narrowed : AreNarrowed trial trial.later.now
  pub long : length tail ≡ 64
  pub within : (i : ℕ) → i < 64 → slice_index_or tail i No ≢ No
      → 64 * trial.chunk + i < trial.structure.now.size
  pub idle : (i : ℕ) → i < 64 → 64 * trial.chunk + i < trial.structure.now.size
      → slice_index_or tail i No ≡ No
      → IsIdle (IsFrom (length rest)) trial.structure.now
      (put (assignment_of places) trial.last.0 (64 * trial.chunk + i)) (members_in trial)
  pub half : (i : ℕ) → i < 64 → 64 * trial.chunk + i < trial.structure.now.size
      → slice_index_or tail i No ≡ Half
      → Lacks (IsFrom (length rest)) trial.structure.now
      (put (assignment_of places) trial.last.0 (64 * trial.chunk + i)) (members_in trial)
