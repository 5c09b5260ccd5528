-- Updates of an action: which count, and what each is.
use Rattle.std.specs.Prelude.{is_some}
use Rattle.std.proofs.Common.{ℕ, ◌≡◌, ◌↔◌, true, Option, Some, None, slice_get, ⊎_elim, refl, sym, subst}
use Rattle.std.proofs.Common.{◌∙◌, Contains}
use Rattle.std.proofs.Common.{IsTrue, eqb, ne_eqb}
use Rattle.std.proofs.lemmas.Bool.{cases_eq, false≢true, or_cases, or_left, or_right}
use Rattle.std.proofs.lemmas.List.Elements.{All-contains}
use Rattle.tv_model.specs.declared.program.Mode.{Mode}
use Rattle.tv_model.specs.declared.program.Mode.TheVariants.{Given, Recompute}
use Rattle.tv_model.specs.Program.{ProgramForm, PredForm, KindForm, KCore, KDefined, ActionForm, UpdateForm}
use Rattle.tv_model.specs.Step.{update_for}
use Rattle.tv_model.specs.Valid.{IsAction, AreVariables, IsChange, IsUpdate}
use Rattle.tv_update_laws.specs.Applied.{used_update, kind_at, update_at, moves_individuals, MovesIndividuals}
use Rattle.tv_update_laws.proofs.Facts.{find-found}

pub moves-same : (action : ActionForm) → IsTrue (moves_individuals action) ↔ MovesIndividuals action
moves-same action = (
  λ t. or_cases action.fresh (is_some action.retain) t,
  λ m. ⊎_elim (λ h. or_left action.fresh (is_some action.retain) h)
      (λ h. or_right action.fresh (is_some action.retain) h) m,
)

pub used-core : (mode : Mode) (w : Option UpdateForm) → used_update mode KCore w ≡ w
used-core Given w = refl
used-core Recompute w = refl

pub none-used : (mode : Mode) (kind : KindForm) → used_update mode kind None ≡ None
none-used Given kind = refl
none-used Recompute KCore = refl
none-used Recompute (KDefined vars body) = refl

-- an update that counts is one of the action
pub used-is : (mode : Mode) (kind : KindForm) (o : Option UpdateForm) (w : UpdateForm)
    → used_update mode kind o ≡ Some w → o ≡ Some w
used-is Given kind o w e = e
used-is Recompute KCore o w e = e
used-is Recompute (KDefined vars body) o w e = absurd (cc e)

-- what the update of the predicate q is
pub record UpdateOf (p : ProgramForm) (action : ActionForm) (q : ℕ) (w : UpdateForm) : Type 0 where
  pub listed : Contains action.updates w
  pub its_pred : w.pred ≡ q
  pub pred : PredForm
  pub found : slice_get p.preds q ≡ Some pred
  pub vars : AreVariables pred.arity w.vars
  pub change : IsChange p action pred w.vars w.change

pub update-of : (p : ProgramForm) (action : ActionForm) → IsAction p action → (q : ℕ) (w : UpdateForm)
    → update_for q action.updates ≡ Some w → UpdateOf p action q w
update-of p action valid q w found =
    let first : Contains action.updates w × (eqb w.pred q ≡ true) =
    find-found (λ (x : UpdateForm). eqb x.pred q) action.updates w found
    in let is : IsUpdate p action w = All-contains (IsUpdate p action) action.updates w valid.updates first.0
    in let same : w.pred ≡ q
    = ⊎_elim (λ e. e) (λ ne. absurd (false≢true (sym (ne_eqb w.pred q ne) ∙ first.1))) (cases_eq w.pred q)
    in record {
      listed = first.0;
      its_pred = same;
      pred = is.0;
      found = subst (λ n. slice_get p.preds n ≡ Some is.0) same is.1;
      vars = is.2;
      change = is.3;
    }

pub used-update-of : (p : ProgramForm) (mode : Mode) (action : ActionForm) → IsAction p action
    → (q : ℕ) (w : UpdateForm) → update_at p mode action q ≡ Some w → UpdateOf p action q w
used-update-of p mode action valid q w used =
    update-of p action valid q w (used-is mode (kind_at p q) (update_for q action.updates) w used)
