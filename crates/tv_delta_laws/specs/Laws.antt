-- Laws of finite differencing, as statements.
use Rattle.std.specs.Prelude.{ℕ, ◌≡◌, ◌↔◌, Bool, List, Some, slice_get, Contains}
use Rattle.tv_model.specs.declared.program.Mode.TheVariants.{Given, Recompute}
use Rattle.tv_model.specs.Form.{Form, FNot, FAnd, FOr, FExists, FForall, FCond, IsFree}
use Rattle.tv_model.specs.Heap.{Heap, Holds, IsTuple}
use Rattle.tv_model.specs.Program.{ProgramForm, PredForm, KDefined, ActionForm}
use Rattle.tv_model.specs.Rules.{IsConcrete, blank}
use Rattle.tv_model.specs.Run.{IsRun, Stage}
use Rattle.tv_model.specs.Step.{StepsThrough}
use Rattle.tv_model.specs.Truth.{Assignment, Truth, put_all}
use Rattle.tv_model.specs.Valid.{IsValid}
use Rattle.tv_delta_laws.specs.Simple.{simple_not, simple_and, simple_or, simple_exists, simple_forall}
use Rattle.tv_delta_laws.specs.Simple.{simple_cond}
use Rattle.tv_delta_laws.specs.Putting.{Reserved, Arguments, put_in, argument_for}
use Rattle.tv_delta_laws.specs.Differences.{AreAffected, answer_for, DKeep, DTo, IsDifferenced}

-- both formulas are true or false together, in each heap and under each assignment
abbrev pub SameTruth : Form → Form → Type 0
SameTruth f g = (h : Heap) (a : Assignment) → Truth h a f ↔ Truth h a g

-- each constructor that simplifies gives a formula that is true exactly where the plain one is
pub record SimplifyingKeepsTruth : Type 0 where
  pub negation : (f : Form) → SameTruth (simple_not f) (FNot f)
  pub conjunction : (f g : Form) → SameTruth (simple_and f g) (FAnd f g)
  pub disjunction : (f g : Form) → SameTruth (simple_or f g) (FOr f g)
  pub existence : (v : ℕ) (f : Form) → SameTruth (simple_exists v f) (FExists v f)
  pub universality : (v : ℕ) (f : Form) → SameTruth (simple_forall v f) (FForall v f)
  pub conditional : (c f g : Form) → SameTruth (simple_cond c f g) (FCond c f g)

-- Putting arguments in keeps truth: the formula with the arguments is true under an assignment where the
-- plain one is true under one that gives each free variable what the first gives to its argument.
abbrev pub PuttingInKeepsTruth : Type 0
PuttingInKeepsTruth =
    (r : Reserved) (f g : Form) (m : Arguments) → put_in r f m ≡ Some g
    → (h : Heap) (a b : Assignment) → ((v : ℕ) → IsFree v f → b v ≡ a (argument_for m v))
    → Truth h a g ↔ Truth h b f

-- for each step by the action, from a concrete heap, the update is true of a tuple of kept individuals in the
-- middle heap exactly where the definition is true of it in the new heap
abbrev pub UpdatesTellTheTruth : Type 0
UpdatesTellTheTruth =
    (p : ProgramForm) (action : ActionForm) (affected : List Bool) (q : ℕ) (d : PredForm) (vars : List ℕ)
    (body : Form)
    (own : List ℕ) (f : Form) (picked : Assignment) (old middle new : Heap) (tuple : List ℕ)
    → IsValid p → Contains p.actions action → AreAffected p action affected
    → slice_get p.preds q ≡ Some d → d.kind ≡ KDefined vars body
    → answer_for p action affected q vars body ≡ DTo own f
    → StepsThrough p action picked old middle new → IsConcrete p old → IsTuple new d.arity tuple
    → Truth middle (put_all picked own tuple) f ↔ Truth new (put_all blank vars tuple) body

-- a predicate that is kept holds of the same tuples before and after such a step
abbrev pub KeptPredicatesStay : Type 0
KeptPredicatesStay =
    (p : ProgramForm) (action : ActionForm) (affected : List Bool) (q : ℕ) (d : PredForm) (vars : List ℕ)
    (body : Form)
    (picked : Assignment) (old middle new : Heap) (tuple : List ℕ)
    → IsValid p → Contains p.actions action → AreAffected p action affected
    → slice_get p.preds q ≡ Some d → d.kind ≡ KDefined vars body
    → answer_for p action affected q vars body ≡ DKeep
    → StepsThrough p action picked old middle new → IsConcrete p old
    → Holds old q tuple ↔ Holds new q tuple

-- each run that recomputes defined predicates is a run of the differenced program by its given updates
abbrev pub RunsAreDifferenced : Type 0
RunsAreDifferenced =
    (p new : ProgramForm) (start : Heap) (stages : List Stage) → IsValid p → IsDifferenced p new
    → IsRun p Recompute start stages → IsRun new Given start stages

-- the differenced program of a valid program is valid
abbrev pub DifferencedIsValid : Type 0
DifferencedIsValid = (p new : ProgramForm) → IsValid p → IsDifferenced p new → IsValid new
