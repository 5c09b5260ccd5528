-- What finite differencing says of a defined predicate and an action, and the program that it makes.
use Rattle.std.specs.Prelude.{ℕ, ◌≡◌, ◌+◌, ◌⊎◌, ◌↔◌, ◌||◌, Bool, true, List, [], ◌∷◌, ◌++◌, length}
use Rattle.std.specs.Prelude.{filter, Option, Some, None, slice_get, is_some, if◌then◌else◌, option_and_then}
use Rattle.std.specs.List.{zip, AllZip}
use Rattle.tv_model.specs.Form.{Form, FAtom, Mentions}
use Rattle.tv_model.specs.Program.{ProgramForm, PredForm, EachPred, KindForm, KCore, KDefined, ActionForm}
use Rattle.tv_model.specs.Program.{is_core_pred}
use Rattle.tv_model.specs.Program.{UpdateForm, CTo}
use Rattle.tv_model.specs.Step.{update_for}
use Rattle.tv_model.specs.Truth.{IsWalk}
use Rattle.tv_delta_laws.specs.Simple.{is_small, simple_not, simple_cond}
use Rattle.tv_delta_laws.specs.Putting.{Reserved, own_variables, variables}
use Rattle.tv_delta_laws.specs.Deltas.{Delta, delta_of, atom_delta, is_flagged, small_put}

-- the action changes the predicate: it is core and has an update
pub record IsChanged (p : ProgramForm) (action : ActionForm) (q : ℕ) : Type 0 where
  pub pred : PredForm
  pub found : slice_get p.preds q ≡ Some pred
  pub core : pred.kind ≡ KCore
  pub update : UpdateForm
  pub updated : update_for q action.updates ≡ Some update

-- the definition of the predicate q mentions the predicate r
pub record DefinedBy (p : ProgramForm) (q r : ℕ) : Type 0 where
  pub pred : PredForm
  pub vars : List ℕ
  pub body : Form
  pub found : slice_get p.preds q ≡ Some pred
  pub defined : pred.kind ≡ KDefined vars body
  pub mentions : Mentions r body

-- the action affects the predicate: it changes it, or the predicate's definition rests, directly or through
-- others, on one that the action changes
abbrev pub IsAffected : ProgramForm → ActionForm → ℕ → Type 0
IsAffected p action q =
    IsChanged p action q
    ⊎ ((r : ℕ) × (stops : List ℕ) × IsChanged p action r × IsWalk (DefinedBy p) q stops r)

-- the flags say of each predicate whether the action affects it
pub record AreAffected (p : ProgramForm) (action : ActionForm) (affected : List Bool) : Type 0 where
  pub one_each : length affected ≡ length p.preds
  pub tell : EachPred p.preds (λ q d. (is_flagged affected q ≡ true) ↔ IsAffected p action q)

-- the answer: the predicate stays as it is, its definition is evaluated anew, or it is updated by a formula
-- over variables of its own
pub data Answer : Type 0 where
  DKeep : Answer
  DEvaluate : Answer
  DTo : (vars : List ℕ) → Form → Answer

-- the update by the stored predicate and the delta of its definition, if it is small
abbrev pub update_by : (q : ℕ) → (own : List ℕ) → Delta → Answer
update_by q own d =
    let f : Form = simple_cond (FAtom q own) (simple_not d.down) d.up
    in if is_small f then DTo own f else DEvaluate

abbrev pub or_evaluate : Option Answer → Answer
or_evaluate None = DEvaluate
or_evaluate (Some x) = x

-- the update of the predicate q, defined by the body over the variables, if it can be formed: the body speaks
-- of the own variables, and each definition inside another is opened
abbrev pub formed : ProgramForm → ActionForm → (affected : List Bool) → (q : ℕ) → (vars : List ℕ) → Form
    → Answer
formed p action affected q vars body =
    or_evaluate (option_and_then (λ own.
    let r : Reserved = record { picks = action.picks; own = own }
    in option_and_then (λ d. Some (update_by q own d))
    (option_and_then (delta_of (atom_delta (length p.preds) p action r affected) affected)
    (small_put r body (zip vars own))))
    (own_variables action.picks (action.picks ++ (vars ++ variables body)) vars))

-- the answer for the predicate q, defined by the body over the variables: it is kept where the action neither
-- affects it nor adds or removes individuals, and evaluated where the action adds or removes individuals or
-- no update can be formed
abbrev pub answer_for : ProgramForm → ActionForm → (affected : List Bool) → (q : ℕ) → (vars : List ℕ) → Form
    → Answer
answer_for p action affected q vars body =
    if action.fresh || is_some action.retain then DEvaluate
    else if is_flagged affected q then formed p action affected q vars body
    else DKeep

-- a core predicate has no answer
abbrev pub answer_by_kind : ProgramForm → ActionForm → (affected : List Bool) → (q : ℕ) → KindForm → Answer
answer_by_kind p action affected q KCore = DKeep
answer_by_kind p action affected q (KDefined vars body) = answer_for p action affected q vars body

-- ---- the differenced program

abbrev pub updates_by : (q : ℕ) → Answer → List UpdateForm
updates_by q DKeep = []
updates_by q DEvaluate = []
updates_by q (DTo vars f) = record { pred = q; vars = vars; change = CTo f } ∷ []

-- the answers of the predicates from number q on that are updates, in their order
abbrev pub answers_from : ProgramForm → ActionForm → (affected : List Bool) → (q : ℕ) → List PredForm
    → List UpdateForm
answers_from p action affected q [] = []
answers_from p action affected q (d ∷ preds) =
    updates_by q (answer_by_kind p action affected q d.kind) ++ answers_from p action affected (q + 1) preds

-- the updates of core predicates that are given, and behind them those of defined ones that differencing
-- makes
abbrev pub differenced_updates : ProgramForm → ActionForm → (affected : List Bool) → List UpdateForm
differenced_updates p action affected =
    filter (λ w. is_core_pred (slice_get p.preds w.pred)) action.updates
    ++ answers_from p action affected 0 p.preds

-- the action with these updates
abbrev pub with_updates : ActionForm → List UpdateForm → ActionForm
with_updates action updates = record {
  pre = action.pre;
  picks = action.picks;
  focus = action.focus;
  messages = action.messages;
  fresh = action.fresh;
  retain = action.retain;
  updates = updates;
}

abbrev pub IsDifferencedAction : ProgramForm → (old new : ActionForm) → Type 0
IsDifferencedAction p old new =
    (affected : List Bool) × AreAffected p old affected
    × (new ≡ with_updates old (differenced_updates p old affected))

-- the program with these actions
abbrev pub with_actions : ProgramForm → List ActionForm → ProgramForm
with_actions p actions =
    record { preds = p.preds; rules = p.rules; actions = actions; edges = p.edges; nodes = p.nodes }

-- all stays but the updates of each action
pub record IsDifferenced (p new : ProgramForm) : Type 0 where
  pub rest : new ≡ with_actions p new.actions
  pub actions : AllZip (IsDifferencedAction p) p.actions new.actions
