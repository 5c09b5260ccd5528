-- The updates of the differenced program tell the truth.
use Rattle.std.proofs.Common.{ℕ, ◌≡◌, ◌∙◌, Bool, true, false, List, ⊎_elim, sym, ap, subst, filter, Contains}
use Rattle.std.specs.Prelude.{slice_get}
use Rattle.std.specs.List.{AllZip}
use Rattle.std.proofs.lemmas.Bool.{false≢true}
use Rattle.std.proofs.lemmas.List.Elements.{Contains-append_cases}
use Rattle.tv_model.specs.Form.{Form}
use Rattle.tv_model.specs.Program.{ProgramForm, PredForm, KindForm, KDefined, ActionForm, UpdateForm}
use Rattle.tv_model.specs.Program.{is_core_kind, is_core_pred}
use Rattle.tv_model.specs.Valid.{IsValid}
use Rattle.tv_model.proofs.Lists.{Contains-filter_back, slice_get-contains}
use Rattle.tv_delta_laws.specs.Differences.{AreAffected, DTo, answer_for, answer_by_kind, answers_from}
use Rattle.tv_delta_laws.specs.Differences.{differenced_updates, IsDifferenced}
use Rattle.tv_delta_laws.specs.Differences.{IsDifferencedAction, with_actions}
use Rattle.tv_delta_laws.specs.Laws.{UpdatesTellTheTruth}
use Rattle.tv_delta_laws.proofs.Differenced.{AnswerAt, answers-at, answer-found}
use Rattle.tv_delta.specs.Answers.{IsDefinedBy, TellsIn, UpdatesTellTruth}
use Rattle.tv_delta.proofs.Zips.{zip_at}

-- an update of a defined predicate is an answer
its-answer : (p : ProgramForm) (action : ActionForm) (affected : List Bool) (w : UpdateForm) (d : PredForm)
    (vars : List ℕ) (body : Form) → IsDefinedBy p w.pred d vars body
    → Contains (differenced_updates p action affected) w → AnswerAt p action affected 0 p.preds w
its-answer p action affected w d vars body its among =
    let keep : UpdateForm → Bool = λ w. is_core_pred (slice_get p.preds w.pred)
    in ⊎_elim
    (λ core. let passes : is_core_pred (slice_get p.preds w.pred) ≡ true
    = (Contains-filter_back keep action.updates w core).1
    in let defined : is_core_pred (slice_get p.preds w.pred) ≡ false
    = ap is_core_pred its.found ∙ ap is_core_kind its.defined
    in absurd (false≢true (sym defined ∙ passes)))
    (λ answer. answers-at p action affected 0 p.preds w answer)
    (Contains-append_cases (filter keep action.updates) (answers_from p action affected 0 p.preds) w among)

tells : UpdatesTellTheTruth → (p : ProgramForm) (action : ActionForm) (affected : List Bool) (w : UpdateForm)
    (d : PredForm) (vars : List ℕ) (body : Form) → IsValid p → Contains p.actions action → AreAffected p action affected
    → IsDefinedBy p w.pred d vars body → AnswerAt p action affected 0 p.preds w
    → TellsIn p action d vars body w.vars w.change
tells tell p action affected w d vars body valid among marked its at =
    λ f picked old middle new tuple change step concrete fits.
    let same : at.pred ≡ d = cc (answer-found p action affected w at, its.found)
    in let kind : at.pred.kind ≡ KDefined vars body = ap (λ (e : PredForm). e.kind) same ∙ its.defined
    in let formula : at.formula ≡ f = cc (at.change, change)
    in let Of : KindForm → Type 0 = λ k. answer_by_kind p action affected w.pred k ≡ DTo w.vars at.formula
    in let answer : answer_for p action affected w.pred vars body ≡ DTo w.vars f
    = subst Of kind at.answer ∙ ap (λ g. DTo w.vars g) formula
    in tell p action affected w.pred d vars body w.vars f picked old middle new tuple valid among marked its.found
    its.defined answer step concrete fits

pub updates_tell_truth : UpdatesTellTheTruth → (p new : ProgramForm) → IsValid p → IsDifferenced p new → UpdatesTellTruth p new
updates_tell_truth tell p new valid is k old_action new_action w d vars body at its_new among its =
    let partner : IsDifferencedAction p old_action new_action
    = zip_at (IsDifferencedAction p) p.actions new.actions is.actions k old_action new_action at its_new
    in let In : ActionForm → Type 0 = λ a. Contains a.updates w
    in let listed : Contains (differenced_updates p old_action partner.0) w = subst In partner.2 among
    in tells tell p old_action partner.0 w d vars body valid (slice_get-contains p.actions k old_action at) partner.1 its
    (its-answer p old_action partner.0 w d vars body its listed)

-- ---- the program that is made

pub is_differenced : (p new : ProgramForm) (actions : List ActionForm) → new ≡ with_actions p actions
    → AllZip (IsDifferencedAction p) p.actions actions → IsDifferenced p new
is_differenced p new actions is zipped =
    let same : actions ≡ new.actions = sym (ap (λ (n : ProgramForm). n.actions) is)
    in record {
      rest = is ∙ ap (with_actions p) same;
      actions = subst (AllZip (IsDifferencedAction p) p.actions) same zipped;
    }
