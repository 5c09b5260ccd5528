-- What the answers of differencing say, and what is promised of them.
use Rattle.std.specs.Prelude.{ℕ, ◌≡◌, ◌↔◌, Bool, false, List, [], ◌∷◌, Some, None, slice_get, Contains}
use Rattle.tv_model.specs.declared.program.Mode.TheVariants.{Given, Recompute}
use Rattle.tv_model.specs.Form.{Form, vars_of}
use Rattle.tv_model.specs.Heap.{Heap, Holds, IsTuple}
use Rattle.tv_model.specs.Program.{ProgramForm, PredForm, KDefined, ActionForm, UpdateForm, ChangeForm, CTo}
use Rattle.tv_model.specs.Program.{update_of}
use Rattle.tv_model.specs.Rules.{IsConcrete, blank}
use Rattle.tv_model.specs.Run.{IsRun, Stage}
use Rattle.tv_model.specs.Step.{StepsThrough}
use Rattle.tv_model.specs.Truth.{Assignment, Truth, put_all}
use Rattle.tv_delta_laws.specs.Differences.{AreAffected, IsAffected, Answer, DKeep, DEvaluate, DTo}
use Rattle.tv_delta_laws.specs.Differences.{answer_for}
use Rattle.tv_delta.specs.declared.kinds.Difference.{Difference}
use Rattle.tv_delta.specs.declared.kinds.Difference.TheVariants.{Keep, Evaluate, To}

-- the predicate q is defined by the body over the variables
pub record IsDefinedBy (p : ProgramForm) (q : ℕ) (d : PredForm) (vars : List ℕ) (body : Form) : Type 0 where
  pub found : slice_get p.preds q ≡ Some d
  pub defined : d.kind ≡ KDefined vars body

abbrev pub IsDefined : ProgramForm → ℕ → Type 0
IsDefined p q = (d : PredForm) × (vars : List ℕ) × (body : Form) × IsDefinedBy p q d vars body

-- what the code answers for the predicate q is this answer
abbrev pub SaysAnswer : (q : ℕ) → Difference → Answer → Type 0
SaysAnswer q Keep answer = answer ≡ DKeep
SaysAnswer q Evaluate answer = answer ≡ DEvaluate
SaysAnswer q (To w) answer =
    (vars : List ℕ) × (f : Form) × (answer ≡ DTo vars f)
    × (update_of w ≡ record { pred = q; vars = vars; change = CTo f })

-- it is the answer of differencing for the action and the defined predicate of these numbers
pub record IsDifference (p : ProgramForm) (k q : ℕ) (x : Difference) : Type 0 where
  pub action : ActionForm
  pub at : slice_get p.actions k ≡ Some action
  pub pred : PredForm
  pub vars : List ℕ
  pub body : Form
  pub its : IsDefinedBy p q pred vars body
  pub affected : List Bool
  pub marked : AreAffected p action affected
  pub says : SaysAnswer q x (answer_for p action affected q vars body)

-- the predicate is kept exactly where the action neither affects it nor adds or drops individuals
abbrev pub KeepsWhere : ProgramForm → (k q : ℕ) → Difference → Type 0
KeepsWhere p k q x =
    (action : ActionForm) → slice_get p.actions k ≡ Some action
    → (x ≡ Keep) ↔ ((¬ IsAffected p action q) × (action.fresh ≡ false) × (action.retain ≡ None))

-- for each step by the action, from a concrete heap, the change is true of a tuple of kept individuals in the
-- middle heap exactly where the definition is true of it in the new heap
abbrev pub TellsIn : ProgramForm → ActionForm → PredForm → (vars : List ℕ) → (body : Form) → (own : List ℕ)
    → ChangeForm
    → Type 0
TellsIn p action d vars body own change =
    (f : Form) (picked : Assignment) (old middle new : Heap) (tuple : List ℕ) → change ≡ CTo f
    → StepsThrough p action picked old middle new → IsConcrete p old → IsTuple new d.arity tuple
    → Truth middle (put_all picked own tuple) f ↔ Truth new (put_all blank vars tuple) body

-- the predicate q holds of the same tuples before and after each such step
abbrev pub StaysIn : ProgramForm → ActionForm → (q : ℕ) → Type 0
StaysIn p action q =
    (picked : Assignment) (old middle new : Heap) (tuple : List ℕ)
    → StepsThrough p action picked old middle new → IsConcrete p old
    → Holds old q tuple ↔ Holds new q tuple

-- what is kept stays, and an update tells the truth
abbrev pub TellsBy : ProgramForm → ActionForm → (q : ℕ) → PredForm → (vars : List ℕ) → (body : Form)
    → Difference → Type 0
TellsBy p action q d vars body Keep = StaysIn p action q
TellsBy p action q d vars body Evaluate = Unit {0}
TellsBy p action q d vars body (To w) = TellsIn p action d vars body (vars_of w.vars) (update_of w).change

abbrev pub TellsTruth : ProgramForm → (k q : ℕ) → Difference → Type 0
TellsTruth p k q x =
    (action : ActionForm) (d : PredForm) (vars : List ℕ) (body : Form) → slice_get p.actions k ≡ Some action
    → IsDefinedBy p q d vars body → TellsBy p action q d vars body x

-- each run of the program in which defined predicates are evaluated anew is a run of the new one in which
-- updates are taken for their values
abbrev pub HasRuns : ProgramForm → ProgramForm → Type 0
HasRuns p new =
    (start : Heap) (stages : List Stage) → IsRun p Recompute start stages → IsRun new Given start stages

-- each update of a defined predicate in the new program tells the truth
abbrev pub UpdatesTellTruth : ProgramForm → ProgramForm → Type 0
UpdatesTellTruth p new =
    (k : ℕ) (old_action new_action : ActionForm) (w : UpdateForm) (d : PredForm) (vars : List ℕ) (body : Form)
    → slice_get p.actions k ≡ Some old_action → slice_get new.actions k ≡ Some new_action
    → Contains new_action.updates w → IsDefinedBy p w.pred d vars body
    → TellsIn p old_action d vars body w.vars w.change

-- the answer as a list of updates, of one at most
abbrev pub update_list : Difference → List UpdateForm
update_list Keep = []
update_list Evaluate = []
update_list (To w) = update_of w ∷ []
