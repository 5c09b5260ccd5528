-- Why a definition is evaluated anew, as far as it is read off the program.
use Rattle.std.specs.Prelude.{ℕ, ◌≡◌, ◌≢◌, ◌⊎◌, true, List, Some, None, slice_get}
use Rattle.tv_model.specs.Form.{Form, FZero, FOne, FAtom, FIsNew, FSame, FNot, FAnd, FOr, FIff, FCond}
use Rattle.tv_model.specs.Form.{FExists, FForall, FClosure, Mentions}
use Rattle.tv_model.specs.Program.{ProgramForm, PredForm, KCore, KDefined, ActionForm, UpdateForm, CFree}
use Rattle.tv_model.specs.Step.{update_for}
use Rattle.tv_model.specs.Truth.{IsWalk}
use Rattle.tv_delta_laws.specs.Differences.{DefinedBy, IsAffected}
use Rattle.tv_delta.specs.declared.kinds.Difference.{Difference}
use Rattle.tv_delta.specs.declared.kinds.Difference.TheVariants.{Evaluate}

-- the action leaves the core predicate q free
pub record IsFreed (p : ProgramForm) (action : ActionForm) (q : ℕ) : Type 0 where
  pub pred : PredForm
  pub found : slice_get p.preds q ≡ Some pred
  pub core : pred.kind ≡ KCore
  pub update : UpdateForm
  pub updated : update_for q action.updates ≡ Some update
  pub free : update.change ≡ CFree

-- a closure of the formula is over one that mentions a predicate of which P holds
abbrev pub ClosesOver : (ℕ → Type 0) → Form → Type 0
ClosesOver P FZero = ⊥
ClosesOver P FOne = ⊥
ClosesOver P (FAtom q vars) = ⊥
ClosesOver P (FIsNew v) = ⊥
ClosesOver P (FSame v w) = ⊥
ClosesOver P (FNot f) = ClosesOver P f
ClosesOver P (FAnd f g) = ClosesOver P f ⊎ ClosesOver P g
ClosesOver P (FOr f g) = ClosesOver P f ⊎ ClosesOver P g
ClosesOver P (FIff f g) = ClosesOver P f ⊎ ClosesOver P g
ClosesOver P (FCond c f g) = ClosesOver P c ⊎ (ClosesOver P f ⊎ ClosesOver P g)
ClosesOver P (FExists v f) = ClosesOver P f
ClosesOver P (FForall v f) = ClosesOver P f
ClosesOver P (FClosure from to left right f) = (q : ℕ) × Mentions q f × P q

-- the definition of the predicate q has an affected predicate under a closure
pub record IsClosedOver (p : ProgramForm) (action : ActionForm) (q : ℕ) : Type 0 where
  pub pred : PredForm
  pub vars : List ℕ
  pub body : Form
  pub found : slice_get p.preds q ≡ Some pred
  pub defined : pred.kind ≡ KDefined vars body
  pub closes : ClosesOver (IsAffected p action) body

-- no update can be formed across the predicate q
abbrev pub IsObstacle : ProgramForm → ActionForm → ℕ → Type 0
IsObstacle p action q = IsFreed p action q ⊎ IsClosedOver p action q

-- the predicate q is an obstacle, or its definition rests on one, directly or through others
abbrev pub MeetsObstacle : ProgramForm → ActionForm → ℕ → Type 0
MeetsObstacle p action q =
    IsObstacle p action q
    ⊎ ((r : ℕ) × (stops : List ℕ) × IsObstacle p action r × IsWalk (DefinedBy p) q stops r)

-- the action adds or drops individuals
abbrev pub MovesIndividuals : ActionForm → Type 0
MovesIndividuals action = (action.fresh ≡ true) ⊎ (action.retain ≢ None)

-- Where the action adds or drops individuals, and where an obstacle is met, the predicate q is evaluated
-- anew; and else only where the action affects it. Then it is for want of a slot or for a formula over the
-- limits: these two are tested as formulas are formed, and told by `IsDifference` alone.
pub record EvaluatesAt (p : ProgramForm) (action : ActionForm) (q : ℕ) (x : Difference) : Type 0 where
  pub moved : MovesIndividuals action → x ≡ Evaluate
  pub stopped : MeetsObstacle p action q → x ≡ Evaluate
  pub only : x ≡ Evaluate → MovesIndividuals action ⊎ IsAffected p action q

abbrev pub EvaluatesWhere : ProgramForm → (k q : ℕ) → Difference → Type 0
EvaluatesWhere p k q x =
    (action : ActionForm) → slice_get p.actions k ≡ Some action → EvaluatesAt p action q x
